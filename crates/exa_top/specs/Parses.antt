-- What `parse` leaves, by its status: how much it read, and how much it wrote of what that gives.
use Rattle.std.specs.Prelude.{ℕ, ◌≡◌, ◌<◌, ◌≤◌, ⊤, List, [], ◌++◌, length, None, Result, Ok, Err}
use Rattle.outside.specs.Seen.{SourceSeen, SinkSeen}
use Rattle.outside.specs.Told.{CountsOne, Grows}
use Rattle.line_cutter.specs.Cutting.{Cutting, standing}
use Rattle.script_play.specs.Streams.{read_limit}
use Rattle.script_play.specs.declared.status.Status.{Status}
use Rattle.script_play.specs.declared.status.Status.TheVariants as status
use Rattle.exa_top.specs.declared.words.TextCommand.{TextCommand}
use Rattle.exa_top.specs.declared.words.TextCommand.TheVariants.{Parse}
use Rattle.exa_top.specs.Parsing.{ArePut, IsParsing}
use Rattle.exa_top.specs.Top.{GaveLimit, ReadPart, ReadToEnd, TookPart, Wrote, input_limit}

-- ---- a piece

-- the lines that end in a piece were read; what that gives was written, or its front, by the status
pub record PieceTold (piece : List ℕ) (held held' : Cutting) (sink sink' : SinkSeen) (ends : Status) : Type 0 where
  pub text : List ℕ
  pub put : ArePut piece held held' [] text
  pub none : standing held' ≡ None
  pub wrote : Wrote text sink sink' ends

-- what a call leaves that tells them
abbrev pub TellsPiece : List ℕ → Cutting → Cutting → SinkSeen → SinkSeen → Result (Unit {0}) Status → Type 0
TellsPiece piece held held' sink sink' (Ok _) = PieceTold piece held held' sink sink' status.Ok
TellsPiece piece held held' sink sink' (Err status.WriteFault) =
    PieceTold piece held held' sink sink' status.WriteFault
TellsPiece piece held held' sink sink' (Err status.NoMemory) = sink' ≡ sink
TellsPiece piece held held' sink sink' (Err _) = ⊥

-- ---- a source

-- the lines of some bytes were read, and what that gives was written
pub record AreTold (bytes : List ℕ) (sink sink' : SinkSeen) : Type 0 where
  pub text : List ℕ
  pub parsing : IsParsing bytes text
  pub taken : Grows sink.taken sink'.taken text
  pub same : sink'.faults ≡ sink.faults

-- the whole input was read, and its lines were told
pub record ParsedWhole (source source' : SourceSeen) (sink sink' : SinkSeen) : Type 0 where
  pub bytes : List ℕ
  pub read : ReadToEnd source source' bytes
  pub told : AreTold bytes sink sink'

-- Before the last read all lines that had ended were told: so what a line gives is written before more is read. The
-- last bytes are what that read gave.
pub record ParsedSoFar (last : List ℕ) (source source' : SourceSeen) (sink sink' : SinkSeen) : Type 0 where
  pub bytes : List ℕ
  pub few : length last ≤ read_limit
  pub read : ReadPart source source' (bytes ++ last)
  pub told : AreTold bytes sink sink'

-- a part of the input was read, and of what its lines give a front part was written
pub record ParsedPart (source source' : SourceSeen) (sink sink' : SinkSeen) : Type 0 where
  pub bytes : List ℕ
  pub read : ReadPart source source' bytes
  pub few : length bytes < input_limit
  pub text : List ℕ
  pub parsing : IsParsing bytes text
  pub taken : TookPart sink.taken sink'.taken text

-- what parsing leaves
abbrev pub Parses : SourceSeen → SourceSeen → SinkSeen → SinkSeen → Status → Type 0
Parses source source' sink sink' status.Ok =
    ParsedWhole source source' sink sink' × (source'.faults ≡ source.faults)
Parses source source' sink sink' status.ReadFault =
    ParsedSoFar [] source source' sink sink' × CountsOne source.faults source'.faults
Parses source source' sink sink' status.InputLong =
    ((last : List ℕ) × ParsedSoFar last source source' sink sink') × (source'.faults ≡ source.faults)
    × GaveLimit input_limit source source'
Parses source source' sink sink' status.NoMemory =
    ((last : List ℕ) × ParsedSoFar last source source' sink sink') × (source'.faults ≡ source.faults)
Parses source source' sink sink' status.WriteFault =
    ParsedPart source source' sink sink' × (source'.faults ≡ source.faults) × CountsOne sink.faults sink'.faults
Parses source source' sink sink' _ = ⊥

-- what a command leaves that parses
abbrev pub ParsesIts : TextCommand → SourceSeen → SourceSeen → SinkSeen → SinkSeen → Status → Type 0
ParsesIts Parse source source' sink sink' ends = Parses source source' sink sink' ends
ParsesIts _ source source' sink sink' ends = ⊤
