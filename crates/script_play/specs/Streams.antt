-- What calls leave that play lines as they come: how far they came, what they wrote, and how they stopped.
use Rattle.std.specs.Prelude.{ℕ, ◌≡◌, ◌≢◌, ◌⊎◌, ◌<◌, ◌≤◌, ◌^◌, true, List, [], ◌∷◌, ◌++◌, length, Option, Result, Ok}
use Rattle.std.specs.Prelude.{Err}
use Rattle.std.specs.List.{flat_map, AllByRecursion}
use Rattle.outside.specs.Seen.{SinkSeen, SourceSeen}
use Rattle.outside.specs.Told.{AreLeft, AreLeftFrom, CountsOne, Grows, Shrinks}
use Rattle.config_model.specs.Sections.{Sections}
use Rattle.book_history.specs.Entries.{History}
use Rattle.book_history.specs.Legal.{IsLegal}
use Rattle.answer_texts.specs.Shown.{all_of, shown}
use Rattle.script_grammar.specs.Events.{ScriptLine}
use Rattle.text_history.specs.Adding.{Adding}
use Rattle.text_history.specs.Plays.{AddsLine, AddsSaid, IsPlay, IsPlayPart, IsRefusedAt, is_no_line}
use Rattle.script_play.specs.declared.status.Status.{Status}
use Rattle.script_play.specs.declared.status.Status.TheVariants as status
use Rattle.script_play.specs.declared.halt.Halt.{Halt}
use Rattle.script_play.specs.declared.halt.Halt.TheVariants as halt
use Rattle.script_play.specs.declared.player.Player.{Player}
use Rattle.script_play.specs.Player.{PlayerStands}
use Rattle.script_play.specs.Writing.{Stops, status_of}

-- how many bytes of input are too many
abbrev pub input_limit : ℕ
input_limit = 2 ^ 40

-- how many bytes one read gives at most
abbrev pub read_limit : ℕ
read_limit = 65536

-- a line with its line feed
abbrev pub ended : List ℕ → List ℕ
ended line = line ++ 10 ∷ []

-- no line feed stands in a line
abbrev pub HasNoFeed : List ℕ → Type 0
HasNoFeed line = AllByRecursion (λ b. b ≢ 10) line

-- bytes are refused at a line, whatever follows them: the line ended, or is longer than one may be
abbrev pub StayRefused : Option (List ℕ → List ℕ) → List ℕ → ℕ → History → Type 0
StayRefused content bytes number H = (more : List ℕ) → IsRefusedAt content (bytes ++ more) number H

-- a history's events begin those of bytes, whatever follows these: no line is entered before its end is known
abbrev pub StayPart : Option (List ℕ → List ℕ) → List ℕ → History → Type 0
StayPart content bytes H = (more : List ℕ) → IsPlayPart content (bytes ++ more) H

-- ---- a line

-- a line was played, and what it is answered was written
pub record LinePlayed (content : Option (List ℕ → List ℕ)) (cfg : Sections) (H : History) (said : ScriptLine)
    (player : Player) (sink sink' : SinkSeen) : Type 0 where
  pub added : History
  pub adds : AddsSaid content H said added
  pub stands : PlayerStands cfg (added ++ H) player
  pub taken : Grows sink.taken sink'.taken (all_of shown added)
  pub same : sink'.faults ≡ sink.faults

-- entries were made that begin those of a line, and a front part of what is printed of them was written
pub record LineStopped (content : Option (List ℕ → List ℕ)) (cfg : Sections) (H : History) (said : ScriptLine)
    (sink sink' : SinkSeen) : Type 0 where
  pub added : History
  pub more : History
  pub adds : AddsSaid content H said (more ++ added)
  pub legal : IsLegal cfg (added ++ H)
  pub part : List ℕ
  pub rest : List ℕ
  pub text_is : all_of shown added ≡ part ++ rest
  pub taken : Grows sink.taken sink'.taken part

-- what a call leaves that plays the line of a number, behind a history
abbrev pub LeavesLine : Option (List ℕ → List ℕ) → Sections → History → ℕ → ScriptLine → Player → ℕ → ℕ → SinkSeen
    → SinkSeen → Result (Unit {0}) Halt → Type 0
LeavesLine content cfg H number said player files files' sink sink' (Ok _) =
    LinePlayed content cfg H said player sink sink' × (files' ≡ files)
LeavesLine content cfg H number said player files files' sink sink' (Err (halt.Script at)) =
    (at ≡ number) × (is_no_line H said ≡ true) × (sink' ≡ sink) × (files' ≡ files)
LeavesLine content cfg H number said player files files' sink sink' (Err halted) =
    LineStopped content cfg H said sink sink' × Stops files files' sink sink' halted

-- the same, wherever the player stands
abbrev pub PlaysLine : Option (List ℕ → List ℕ) → ℕ → ScriptLine → Player → Player → ℕ → ℕ → SinkSeen → SinkSeen
    → Result (Unit {0}) Halt → Type 0
PlaysLine content number said was player files files' sink sink' result =
    (cfg : Sections) (H : History) → PlayerStands cfg H was
    → LeavesLine content cfg H number said player files files' sink sink' result

-- ---- lines

-- bytes are so many lines that were played, and then the front of a line
pub record ArePlayed (content : Option (List ℕ → List ℕ)) (bytes held : List ℕ) (number : ℕ) (H : History)
    : Type 0 where
  pub lines : List (List ℕ)
  pub no_feeds : AllByRecursion HasNoFeed lines
  pub no_feed : HasNoFeed held
  pub bytes_are : bytes ≡ flat_map ended lines ++ held
  pub count : number ≡ length lines
  pub played : Adding (AddsLine content) [] lines H

-- the ended lines of all bytes so far were played, and what they are answered was written
pub record CameTo (content : Option (List ℕ → List ℕ)) (cfg : Sections) (bytes held : List ℕ) (number : ℕ)
    (player : Player) (files files' : ℕ) (sink sink' : SinkSeen) : Type 0 where
  pub history : History
  pub played : ArePlayed content bytes held number history
  pub stands : PlayerStands cfg history player
  pub taken : Grows sink.taken sink'.taken (all_of shown history)
  pub same : sink'.faults ≡ sink.faults
  pub unopened : files' ≡ files

-- a line is none: those before it were played, and what they are answered was written
pub record RefusedBy (Refuses : History → Type 0) (cfg : Sections) (sink sink' : SinkSeen) : Type 0 where
  pub history : History
  pub refused : Refuses history
  pub legal : IsLegal cfg history
  pub taken : Grows sink.taken sink'.taken (all_of shown history)
  pub same : sink'.faults ≡ sink.faults

-- a part of the events was entered, and a front part of what is printed of it was written
pub record StoppedIn (Plays : History → Type 0) (cfg : Sections) (sink sink' : SinkSeen) : Type 0 where
  pub history : History
  pub played : Plays history
  pub legal : IsLegal cfg history
  pub part : List ℕ
  pub rest : List ℕ
  pub text_is : all_of shown history ≡ part ++ rest
  pub taken : Grows sink.taken sink'.taken part

-- what a call leaves that goes on with a piece, up to which these are all bytes
abbrev pub GoesOn : Option (List ℕ → List ℕ) → Sections → List ℕ → List ℕ → ℕ → Player → ℕ → ℕ → SinkSeen → SinkSeen
    → Result (Unit {0}) Halt → Type 0
GoesOn content cfg bytes held number player files files' sink sink' (Ok _) =
    CameTo content cfg bytes held number player files files' sink sink'
GoesOn content cfg bytes held number player files files' sink sink' (Err (halt.Script line)) =
    RefusedBy (StayRefused content bytes line) cfg sink sink' × (files' ≡ files)
GoesOn content cfg bytes held number player files files' sink sink' (Err halted) =
    StoppedIn (StayPart content bytes) cfg sink sink' × Stops files files' sink sink' halted

-- what a call leaves that plays a piece behind bytes that were played before, whatever these were
abbrev pub PlaysPiece : Option (List ℕ → List ℕ) → List ℕ → List ℕ → List ℕ → ℕ → ℕ → Player → Player → ℕ → ℕ → SinkSeen
    → SinkSeen → Result (Unit {0}) Halt → Type 0
PlaysPiece content piece held held' number number' was player files files' sink sink' result =
    (cfg : Sections) (bytes : List ℕ) (opened : ℕ) (start : SinkSeen)
    → CameTo content cfg bytes held number was opened files start sink
    → GoesOn content cfg (bytes ++ piece) held' number' player opened files' start sink' result

-- all bytes were played, and what they are answered was written
pub record PlayedAll (content : Option (List ℕ → List ℕ)) (cfg : Sections) (bytes : List ℕ) (sink sink' : SinkSeen)
    : Type 0 where
  pub history : History
  pub played : IsPlay content bytes history
  pub legal : IsLegal cfg history
  pub taken : Grows sink.taken sink'.taken (all_of shown history)
  pub same : sink'.faults ≡ sink.faults

-- what a call leaves that plays the last line, which no line feed ended
abbrev pub Finishes : Option (List ℕ → List ℕ) → Sections → List ℕ → ℕ → ℕ → SinkSeen → SinkSeen
    → Result (Unit {0}) Halt → Type 0
Finishes content cfg bytes files files' sink sink' (Ok _) =
    PlayedAll content cfg bytes sink sink' × (files' ≡ files)
Finishes content cfg bytes files files' sink sink' (Err (halt.Script line)) =
    RefusedBy (IsRefusedAt content bytes line) cfg sink sink' × (files' ≡ files)
Finishes content cfg bytes files files' sink sink' (Err halted) =
    StoppedIn (IsPlayPart content bytes) cfg sink sink' × Stops files files' sink sink' halted

-- the same, whatever bytes were played before
abbrev pub PlaysLast : Option (List ℕ → List ℕ) → List ℕ → ℕ → Player → ℕ → ℕ → SinkSeen → SinkSeen
    → Result (Unit {0}) Halt → Type 0
PlaysLast content held number was files files' sink sink' result =
    (cfg : Sections) (bytes : List ℕ) (opened : ℕ) (start : SinkSeen)
    → CameTo content cfg bytes held number was opened files start sink
    → Finishes content cfg bytes opened files' start sink' result

-- ---- a source

-- a source was read to its end, which came before the limit
pub record ReadWhole (source source' : SourceSeen) (bytes : List ℕ) : Type 0 where
  pub given : Grows source.given source'.given bytes
  pub left : Shrinks source.left source'.left bytes
  pub whole : AreLeft source.left bytes
  pub short : length bytes < input_limit
  pub ended : source'.ended ≡ true
  pub same : source'.faults ≡ source.faults

-- a source gave bytes, no more than the limit
pub record ReadPart (source source' : SourceSeen) (bytes : List ℕ) : Type 0 where
  pub given : Grows source.given source'.given bytes
  pub left : Shrinks source.left source'.left bytes
  pub short : length bytes ≤ input_limit

-- a whole script was played, and its whole output written
pub record PlayedWhole (content : Option (List ℕ → List ℕ)) (cfg : Sections) (source source' : SourceSeen)
    (sink sink' : SinkSeen) : Type 0 where
  pub bytes : List ℕ
  pub read : ReadWhole source source' bytes
  pub history : History
  pub played : IsPlay content bytes history
  pub legal : IsLegal cfg history
  pub taken : Grows sink.taken sink'.taken (all_of shown history)
  pub same : sink'.faults ≡ sink.faults

-- A script is refused at a line of what was read. The line ended, or is longer than one may be, or is the last one and
-- the source ended.
pub record PlayedToLine (content : Option (List ℕ → List ℕ)) (cfg : Sections) (line : ℕ) (source source' : SourceSeen)
    (sink sink' : SinkSeen) : Type 0 where
  pub bytes : List ℕ
  pub read : ReadPart source source' bytes
  pub few : length bytes < input_limit
  pub history : History
  pub refused : IsRefusedAt content bytes line history
  pub closed : StayRefused content bytes line history ⊎ (AreLeft source.left bytes × (source'.ended ≡ true))
  pub legal : IsLegal cfg history
  pub taken : Grows sink.taken sink'.taken (all_of shown history)
  pub same : source'.faults ≡ source.faults
  pub unfailed : sink'.faults ≡ sink.faults

-- Before a read that failed, or that gave as many bytes as the limit, all lines that had ended were played, and what
-- they are answered was written: so what is answered is written before more is read. The last bytes are what that read
-- gave.
pub record PlayedSoFar (content : Option (List ℕ → List ℕ)) (cfg : Sections) (last : List ℕ)
    (source source' : SourceSeen) (sink sink' : SinkSeen) : Type 0 where
  pub bytes : List ℕ
  pub read : ReadPart source source' (bytes ++ last)
  pub held : List ℕ
  pub number : ℕ
  pub history : History
  pub played : ArePlayed content bytes held number history
  pub legal : IsLegal cfg history
  pub taken : Grows sink.taken sink'.taken (all_of shown history)
  pub same : sink'.faults ≡ sink.faults

-- A part of a script was played, and a front part of its output was written. The lines of it had ended, unless the
-- source had: no line was entered before its end was known.
pub record PlayedPart (content : Option (List ℕ → List ℕ)) (cfg : Sections) (source source' : SourceSeen)
    (sink sink' : SinkSeen) : Type 0 where
  pub bytes : List ℕ
  pub read : ReadPart source source' bytes
  pub few : length bytes < input_limit
  pub stopped : StoppedIn (IsPlayPart content bytes) cfg sink sink'
  pub closed : StayPart content bytes stopped.history ⊎ (AreLeft source.left bytes × (source'.ended ≡ true))
  pub same : source'.faults ≡ source.faults

-- the same, or nothing was read, entered or written
pub data PlayedAtMost (content : Option (List ℕ → List ℕ)) (cfg : Sections) (source source' : SourceSeen)
    (sink sink' : SinkSeen) : Type 0 where
  part : PlayedPart content cfg source source' sink sink' → PlayedAtMost content cfg source source' sink sink'
  unopened : source' ≡ source → sink' ≡ sink → PlayedAtMost content cfg source source' sink sink'

-- the bytes that were given are as many as the limit, and the end wasn't met
pub record GaveLimit (source source' : SourceSeen) (bytes : List ℕ) : Type 0 where
  pub full : length bytes ≡ input_limit
  pub left : AreLeftFrom source.left input_limit
  pub unended : source'.ended ≡ source.ended
  pub same : source'.faults ≡ source.faults

-- the lines before the read were played that gave the last bytes below the limit
pub record PlayedToLimit (content : Option (List ℕ → List ℕ)) (cfg : Sections) (source source' : SourceSeen)
    (sink sink' : SinkSeen) : Type 0 where
  pub last : List ℕ
  pub few : length last ≤ read_limit
  pub played : PlayedSoFar content cfg last source source' sink sink'
  pub gave : GaveLimit source source' (played.bytes ++ last)

-- what playing leaves, by its status
abbrev pub Plays : Option (List ℕ → List ℕ) → Sections → SourceSeen → SourceSeen → SinkSeen → SinkSeen → ℕ → ℕ → Status
    → Type 0
Plays content cfg source source' sink sink' files files' status.Ok =
    PlayedWhole content cfg source source' sink sink' × (files' ≡ files)
Plays content cfg source source' sink sink' files files' (status.ScriptRefused line) =
    PlayedToLine content cfg line source source' sink sink' × (files' ≡ files)
Plays content cfg source source' sink sink' files files' status.ReadFault =
    PlayedSoFar content cfg [] source source' sink sink' × CountsOne source.faults source'.faults × (files' ≡ files)
Plays content cfg source source' sink sink' files files' status.InputLong =
    PlayedToLimit content cfg source source' sink sink' × (files' ≡ files)
Plays content cfg source source' sink sink' files files' status.WriteFault =
    PlayedPart content cfg source source' sink sink' × CountsOne sink.faults sink'.faults × (files' ≡ files)
Plays content cfg source source' sink sink' files files' status.ConfigRead =
    PlayedPart content cfg source source' sink sink' × (sink'.faults ≡ sink.faults) × CountsOne files files'
Plays content cfg source source' sink sink' files files' status.NoMemory =
    PlayedAtMost content cfg source source' sink sink' × (sink'.faults ≡ sink.faults) × (files' ≡ files)
Plays content cfg source source' sink sink' files files' other = ⊥

-- the status of a call that came to the end of the input, or stopped
abbrev pub status_by : Result (Unit {0}) Halt → Status
status_by (Ok _) = status.Ok
status_by (Err halted) = status_of halted
