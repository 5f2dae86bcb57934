-- What calls leave that write, and why they stop.
use Rattle.std.specs.Prelude.{ℕ, ◌≡◌, List, ◌++◌, Result, Ok, Err}
use Rattle.outside.specs.Seen.{SinkSeen}
use Rattle.outside.specs.Told.{CountsOne, Grows}
use Rattle.script_play.specs.declared.halt.Halt.{Halt}
use Rattle.script_play.specs.declared.halt.Halt.TheVariants as halt
use Rattle.script_play.specs.declared.status.Status.{Status}
use Rattle.script_play.specs.declared.status.Status.TheVariants as status

-- the status of a command that ended so
abbrev pub status_of : Halt → Status
status_of halt.Memory = status.NoMemory
status_of halt.Read = status.ReadFault
status_of halt.Write = status.WriteFault
status_of halt.Long = status.InputLong
status_of halt.File = status.ConfigRead
status_of (halt.Script line) = status.ScriptRefused line

-- why a call stopped that enters and writes, and what the counts of faults of files and of the sink then show
abbrev pub Stops : ℕ → ℕ → SinkSeen → SinkSeen → Halt → Type 0
Stops files files' sink sink' halt.Memory = (files' ≡ files) × (sink'.faults ≡ sink.faults)
Stops files files' sink sink' halt.Write = (files' ≡ files) × CountsOne sink.faults sink'.faults
Stops files files' sink sink' halt.File = CountsOne files files' × (sink'.faults ≡ sink.faults)
Stops files files' sink sink' _ = ⊥

-- a text was written whole
pub record Wrote (text : List ℕ) (sink sink' : SinkSeen) : Type 0 where
  pub taken : Grows sink.taken sink'.taken text
  pub same : sink'.faults ≡ sink.faults

-- its front was written, and then a write failed
pub record Broke (text : List ℕ) (sink sink' : SinkSeen) (halted : Halt) : Type 0 where
  pub part : List ℕ
  pub rest : List ℕ
  pub text_is : text ≡ part ++ rest
  pub taken : Grows sink.taken sink'.taken part
  pub write : halted ≡ halt.Write
  pub counts : CountsOne sink.faults sink'.faults

-- what a call leaves that writes a text
abbrev pub Writes : List ℕ → SinkSeen → SinkSeen → Result (Unit {0}) Halt → Type 0
Writes text sink sink' (Ok _) = Wrote text sink sink'
Writes text sink sink' (Err halted) = Broke text sink sink' halted
