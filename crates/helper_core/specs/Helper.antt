-- A slot for a helper's process.
use Rattle.std.specs.Prelude.{ℕ, Bool, true, false, List, []}
use Rattle.ack_queue.specs.declared.reply.Reply.{Reply}
use Rattle.helper_core.specs.declared.state.State.{State}
use Rattle.helper_core.specs.declared.state.State.TheVariants.{Absent, Idle}

-- What a contract sees of a slot. The starts are those that the window keeps, and count says how often the slot
-- started a process so far.
pub record Helper : Type 0 where
  pub state : State
  pub replies : List Reply
  pub starts : List ℕ
  pub respawn : Bool
  pub started : Bool
  pub count : ℕ

-- a slot that never had a process
abbrev pub new_slot : Helper
new_slot = record { state = Absent; replies = []; starts = []; respawn = true; started = false; count = 0 }

-- the process is taken away, with the replies that wait and its starts; the slot's starts are still counted
abbrev pub removed : Helper → Helper
removed slot = record slot { state = Absent; replies = []; starts = []; started = false }

-- a process is placed, which may be started more than once or not
abbrev pub placed : Bool → Helper → Helper
placed respawn slot = record (removed slot) { state = Idle; respawn = respawn }
