-- What a contract sees of a helper.
use Rattle.std.specs.Prelude.{Bool, true, false, Option}
use Rattle.config_model.specs.declared.sections.Process.{Process}
use Rattle.helper_core.specs.Helper.{Helper as Slot}
use Rattle.helper_core.specs.declared.state.State.{State}
use Rattle.helper_core.specs.declared.state.State.TheVariants.{Absent, Idle, Running, Deaf, GivenUp}
use Rattle.book_history.specs.Helpers.{Child}
use Rattle.book_history.specs.Helpers.Child.{NoChild, Running as Runs, Deaf as IsDeaf}

-- a slot, its process's section, and whether the lines of the last incarnation are replied to
pub record Seen : Type 0 where
  pub slot : Slot
  pub process : Option Process
  pub acks : Bool

-- the child of a slot in this state
abbrev pub child_in : State → Child
child_in Absent = NoChild
child_in Idle = NoChild
child_in (Running inc) = Runs inc
child_in (Deaf inc) = IsDeaf inc
child_in GivenUp = NoChild

-- whether the slot has a process
abbrev pub has_process : State → Bool
has_process Absent = false
has_process Idle = true
has_process (Running inc) = true
has_process (Deaf inc) = true
has_process GivenUp = true

-- whether its process was given up
abbrev pub was_given_up : State → Bool
was_given_up Absent = false
was_given_up Idle = false
was_given_up (Running inc) = false
was_given_up (Deaf inc) = false
was_given_up GivenUp = true
