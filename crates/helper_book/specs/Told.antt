-- What the calls of a helper say.
use Rattle.std.specs.Prelude.{ℕ, ◌++◌, Bool, true, List, [], map, Option, Some, None}
use Rattle.arrayvec.specs.ArrayVec.{ArrayVec}
use Rattle.ack_queue.specs.declared.reply.Reply.{Reply}
use Rattle.ack_queue.specs.declared.reply.Reply.TheVariants as reply
use Rattle.ack_queue.specs.declared.reply.Shown.{Shown}
use Rattle.command_grammar.specs.declared.command.Command.{Command}
use Rattle.command_grammar.specs.declared.command.Command.TheVariants as command
use Rattle.config_model.specs.declared.sections.Process.{Process}
use Rattle.helper_core.specs.Helper.{Helper as Slot, placed, removed}
use Rattle.helper_core.specs.declared.state.Start.{Start}
use Rattle.helper_core.specs.declared.state.Start.TheVariants as start
use Rattle.book_history.specs.declared.outcomes.Spawn.{Spawn}
use Rattle.book_history.specs.declared.outcomes.Spawn.TheVariants as spawn
use Rattle.book_history.specs.Replies.{reply_if}

-- whether a line that is done is replied to, by its command and whether replies were on
abbrev pub replied : Command → Bool → Bool
replied command.EnableAck was = true
replied _ was = was

-- what it is replied: the routes that are shown, and then one reply
abbrev pub told : Bool → Command → List Shown → List Reply
told was given routes = map (λ s. reply.Route s) routes ++ reply_if (replied given was) reply.Done

-- the words that start a process; none where there is no process
abbrev pub words_of : Option Process → ArrayVec ℕ
words_of None = record { items = [] }
words_of (Some process) = process.run

-- what is told of an attempt to start a slot's process
abbrev pub spawn_of : Start → Option Process → Spawn
spawn_of start.Absent process = spawn.Absent
spawn_of start.Running process = spawn.Running
spawn_of start.GiveUp process = spawn.GiveUp
spawn_of (start.Go inc) process = spawn.Go inc (words_of process)

-- a slot that is given another process, or none
abbrev pub settled : Option Process → Slot → Slot
settled None slot = removed slot
settled (Some process) slot = placed process.respawn slot
