-- When a slot's process is started, and what that leaves.
use Rattle.std.specs.Prelude.{ℕ, ◌+◌, ◌-◌, ◌^◌, nat_lt, Bool, true, false, ◌&&◌, ◌||◌, not, if◌then◌else◌, List, []}
use Rattle.respawn_window.specs.Starts.{window}
use Rattle.helper_core.specs.declared.state.Start.{Start}
use Rattle.helper_core.specs.declared.state.Start.TheVariants as start
use Rattle.helper_core.specs.declared.state.State.{State}
use Rattle.helper_core.specs.declared.state.State.TheVariants.{Absent, Idle, Running, Deaf, GivenUp}
use Rattle.helper_core.specs.Helper.{Helper}

-- whether a process may be started as far as its number of starts goes: more than once, or not at all yet; and the
-- slot's starts are counted below 2^64
abbrev pub has_turn : Helper → Bool
has_turn slot = (slot.respawn || not slot.started) && nat_lt slot.count (2 ^ 64 - 1)

-- whether it may be started at a moment: besides, fewer than five of its starts lie less than 60,000 ms before that
abbrev pub may_start : List ℕ → ℕ → Helper → Bool
may_start starts now slot = has_turn slot && nat_lt (window starts now) 5

-- what an attempt to start a process gives, by the slot's state, whether it may be started, and the next incarnation
abbrev pub start_in : State → Bool → ℕ → Start
start_in Absent may next = start.Absent
start_in Idle may next = if may then start.Go next else start.GiveUp
start_in (Running inc) may next = start.Running
start_in (Deaf inc) may next = start.Running
start_in GivenUp may next = start.GiveUp

-- the same at a moment, by all the process's starts since it was placed
abbrev pub start_of : List ℕ → ℕ → Helper → Start
start_of starts now slot = start_in slot.state (may_start starts now slot) (slot.count + 1)

-- whether an attempt started the process
abbrev pub is_go : Start → Bool
is_go start.Absent = false
is_go start.Running = false
is_go start.GiveUp = false
is_go (start.Go inc) = true

-- What an attempt leaves, and of the starts these: a process that isn't started though none runs is given up, and one
-- that is started runs, and no reply waits for it.
abbrev pub after_start : Start → List ℕ → Helper → Helper
after_start start.Absent starts slot = slot
after_start start.Running starts slot = slot
after_start start.GiveUp starts slot = record slot { state = GivenUp }
after_start (start.Go inc) starts slot =
    record { state = Running inc; replies = []; starts = starts; respawn = slot.respawn; started = true; count = inc }
