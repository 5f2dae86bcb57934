-- What becomes of an incarnation of a slot's process. They count from 1, so 0 names none.
use Rattle.std.specs.Prelude.{ℕ, ◌==◌, Bool, false, ◌&&◌, not, if◌then◌else◌, []}
use Rattle.helper_core.specs.declared.state.State.{State}
use Rattle.helper_core.specs.declared.state.State.TheVariants.{Absent, Idle, Running, Deaf, GivenUp}
use Rattle.helper_core.specs.Helper.{Helper}

-- whether an incarnation runs
abbrev pub is_running : ℕ → State → Bool
is_running inc Absent = false
is_running inc Idle = false
is_running inc (Running present) = present == inc
is_running inc (Deaf present) = false
is_running inc GivenUp = false

-- whether an incarnation is there: it runs or is deaf
abbrev pub is_present : ℕ → State → Bool
is_present inc Absent = false
is_present inc Idle = false
is_present inc (Running present) = present == inc
is_present inc (Deaf present) = present == inc
is_present inc GivenUp = false

-- whether an incarnation is that of the slot's last start
abbrev pub is_last : ℕ → Helper → Bool
is_last inc slot = not (inc == 0) && inc == slot.count

-- An incarnation reads no more replies: if it is that of the last start none waits any more, and if it runs it is deaf.
abbrev pub deafened : ℕ → Helper → Helper
deafened inc slot = record slot {
  state = if is_running inc slot.state then Deaf inc else slot.state;
  replies = if is_last inc slot then [] else slot.replies;
}

-- an incarnation ends: if it is there the process doesn't run any more; the replies stay
abbrev pub ended : ℕ → Helper → Helper
ended inc slot = record slot { state = if is_present inc slot.state then Idle else slot.state }
