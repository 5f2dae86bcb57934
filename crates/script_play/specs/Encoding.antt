-- What calls leave that encode a helper's lines as they come: how far they came, what they wrote, and how they stopped.
use Rattle.std.specs.Prelude.{ℕ, ◌≡◌, ◌⊎◌, ◌<◌, ◌≤◌, Bool, List, [], ◌∷◌, ◌++◌, length, map, Result, Ok, Err}
use Rattle.std.specs.Prelude.{slice_get, Some}
use Rattle.outside.specs.Seen.{SinkSeen, SourceSeen}
use Rattle.outside.specs.Told.{CountsOne, Grows}
use Rattle.route_values.specs.declared.settings.Settings.{Settings}
use Rattle.route_grammar.specs.declared.fault.ReadFault.{ReadFault}
use Rattle.command_grammar.specs.declared.command.Command.{Command}
use Rattle.text_forms.specs.Lines.{Line, lines}
use Rattle.line_cutter.specs.Chunking.{HasCut}
use Rattle.line_cutter.specs.Cutting.{Cutting}
use Rattle.config_model.specs.declared.sections.Neighbor.{Neighbor}
use Rattle.config_model.specs.Sections.{Sections}
use Rattle.book_history.specs.declared.outcomes.Cut.{Cut}
use Rattle.book_history.specs.declared.outcomes.Spawn.{Spawn}
use Rattle.book_history.specs.declared.outcomes.Take.{Take}
use Rattle.book_history.specs.declared.outcomes.Up.{Up}
use Rattle.book_history.specs.declared.outcomes.Verdict.{Verdict}
use Rattle.book_history.specs.Entries.{Entry, History}
use Rattle.book_history.specs.Entries.Entry.{CameUp, LineEntered, MessageCut, RepliesTaken, SpawnAsked}
use Rattle.book_history.specs.Legal.{IsLegal}
use Rattle.answer_texts.specs.Shown.{all_of, encoded}
use Rattle.text_history.specs.Adding.{Adding}
use Rattle.text_history.specs.Encodes.{AddsAnswer, AddsUp, IsEncode, IsEncodePart, caps_sent, is_full}
use Rattle.text_history.specs.Encodes.{numbered}
use Rattle.text_history.specs.Leaving.{IsServed}
use Rattle.text_history.specs.Plays.{is_message}
use Rattle.script_play.specs.declared.status.Status.{Status}
use Rattle.script_play.specs.declared.status.Status.TheVariants as status
use Rattle.script_play.specs.declared.halt.Halt.{Halt}
use Rattle.script_play.specs.declared.halt.Halt.TheVariants as halt
use Rattle.script_play.specs.declared.player.Player.{Player}
use Rattle.script_play.specs.Player.{PlayerStands}
use Rattle.script_play.specs.Streams.{GaveLimit, ReadPart, ReadWhole, input_limit, read_limit}
use Rattle.script_play.specs.Writing.{Wrote}

-- why a call stopped that enters and writes, and what the sink's count of faults then shows
abbrev pub StopsWriting : SinkSeen → SinkSeen → Halt → Type 0
StopsWriting sink sink' halt.Memory = sink'.faults ≡ sink.faults
StopsWriting sink sink' halt.Write = CountsOne sink.faults sink'.faults
StopsWriting sink sink' _ = ⊥

-- a front part of a text was written
pub record WrotePart (text : List ℕ) (sink sink' : SinkSeen) : Type 0 where
  pub part : List ℕ
  pub rest : List ℕ
  pub text_is : text ≡ part ++ rest
  pub taken : Grows sink.taken sink'.taken part

-- what a call leaves that makes and writes a text
abbrev pub WritesText : List ℕ → SinkSeen → SinkSeen → Result (Unit {0}) Halt → Type 0
WritesText text sink sink' (Ok _) = Wrote text sink sink'
WritesText text sink sink' (Err halted) = WrotePart text sink sink' × StopsWriting sink sink' halted

-- entries were added in some way, and what is printed of them was written
pub record Added (Adds : History → Type 0) (cfg : Sections) (H : History) (player : Player) (sink sink' : SinkSeen)
    : Type 0 where
  pub added : History
  pub adds : Adds added
  pub stands : PlayerStands cfg (added ++ H) player
  pub wrote : Wrote (all_of encoded added) sink sink'

-- entries were made that begin such as are added in that way, and a front part of what is printed of them was written
pub record AddedPart (Adds : History → Type 0) (cfg : Sections) (H : History) (sink sink' : SinkSeen) : Type 0 where
  pub added : History
  pub more : History
  pub adds : Adds (more ++ added)
  pub legal : IsLegal cfg (added ++ H)
  pub wrote : WrotePart (all_of encoded added) sink sink'

-- what a call leaves that adds entries in some way
abbrev pub AddsAll : (History → Type 0) → Sections → History → Player → SinkSeen → SinkSeen → Result (Unit {0}) Halt
    → Type 0
AddsAll Adds cfg H player sink sink' (Ok _) = Added Adds cfg H player sink sink'
AddsAll Adds cfg H player sink sink' (Err halted) = AddedPart Adds cfg H sink sink' × StopsWriting sink sink' halted

module _ {A : Type 0} where
  -- entries that some items add behind a history
  abbrev pub AddedBy : (History → A → History → Type 0) → History → List A → History → Type 0
  AddedBy Adds H items added = Adding Adds H items (added ++ H)

  -- some of the items were worked off, and the last of these perhaps in part
  pub record FrontAdded (Adds : History → A → History → Type 0) (items : List A) (cfg : Sections) (H : History)
      (sink sink' : SinkSeen) : Type 0 where
    pub front : List A
    pub behind : List A
    pub items_are : items ≡ front ++ behind
    pub part : AddedPart (AddedBy Adds H front) cfg H sink sink'

  -- what a call leaves that works items off
  abbrev pub WorksOff : (History → A → History → Type 0) → List A → Sections → History → Player → SinkSeen → SinkSeen
      → Result (Unit {0}) Halt → Type 0
  WorksOff Adds items cfg H player sink sink' (Ok _) = Added (AddedBy Adds H items) cfg H player sink sink'
  WorksOff Adds items cfg H player sink sink' (Err halted) =
      FrontAdded Adds items cfg H sink sink' × StopsWriting sink sink' halted

-- a line was entered and given this verdict
pub record EntersLine (cfg : Sections) (H : History) (line : Line) (given : Verdict) (player : Player) : Type 0 where
  pub reading : Result Command ReadFault
  pub stands : PlayerStands cfg (LineEntered 0 1 line reading given ∷ H) player

-- one entry was made, and what is printed of it was written
pub record Printed (entry : Entry) (cfg : Sections) (H : History) (player : Player) (sink sink' : SinkSeen)
    : Type 0 where
  pub stands : PlayerStands cfg (entry ∷ H) player
  pub wrote : Wrote (encoded entry) sink sink'

-- one entry was made, and a front part of what is printed of it was written
pub record PrintedPart (entry : Entry) (cfg : Sections) (H : History) (sink sink' : SinkSeen) : Type 0 where
  pub legal : IsLegal cfg (entry ∷ H)
  pub wrote : WrotePart (encoded entry) sink sink'

-- what a call leaves that takes replies once, and tells whether as many came as are taken at once
abbrev pub TakesOnce : Sections → History → Player → SinkSeen → SinkSeen → Result Bool Halt → Type 0
TakesOnce cfg H player sink sink' (Ok full) =
    (given : Take) × (is_full given ≡ full) × Printed (RepliesTaken 0 1 given) cfg H player sink sink'
TakesOnce cfg H player sink sink' (Err halted) =
    (given : Take) × PrintedPart (RepliesTaken 0 1 given) cfg H sink sink' × StopsWriting sink sink' halted

-- what a call leaves that cuts once for a slot, and tells whether a message came
abbrev pub CutsOnce : ℕ → Sections → History → Player → SinkSeen → SinkSeen → Result Bool Halt → Type 0
CutsOnce n cfg H player sink sink' (Ok came) =
    (bytes : List ℕ) × (given : Cut) × (is_message given ≡ came)
    × Printed (MessageCut n bytes given) cfg H player sink sink'
CutsOnce n cfg H player sink sink' (Err halted) =
    (bytes : List ℕ) × (given : Cut) × PrintedPart (MessageCut n bytes given) cfg H sink sink'
    × StopsWriting sink sink' halted

-- the settings of some neighbours
abbrev pub settings_of : List Neighbor → List Settings
settings_of neighbors = map (λ neighbor. neighbor.settings) neighbors

-- what a call leaves that starts the helper first of all
abbrev pub Spawns : Sections → Player → Type 0
Spawns cfg player = (given : Spawn) × PlayerStands cfg (SpawnAsked 0 0 given ∷ []) player

-- what a call leaves that brings a session up with what these settings send
abbrev pub Raises : Sections → History → ℕ → Settings → Player → Type 0
Raises cfg H n settings player =
    (given : Up) × PlayerStands cfg (CameUp n settings (caps_sent settings) given ∷ H) player

-- the helper was started and the sessions of these neighbours brought up, of which nothing is printed
pub record Started (cfg : Sections) (neighbors : List Neighbor) (player : Player) : Type 0 where
  pub started : Spawn
  pub raised : History
  pub ups : Adding AddsUp (SpawnAsked 0 0 started ∷ []) (numbered 0 neighbors) raised
  pub stands : PlayerStands cfg raised player
  pub silent : all_of encoded raised ≡ []

-- behind the lines that were passed come those that end in a piece, and these were answered
pub record PieceAnswered (cfg : Sections) (bytes : List ℕ) (passed : List Line) (held : Cutting) (H : History)
    (player : Player) (sink sink' : SinkSeen) : Type 0 where
  pub more : List Line
  pub cut : HasCut bytes (passed ++ more) held
  pub answered : Added (AddedBy AddsAnswer H more) cfg H player sink sink'

-- some of them were
pub record PieceStopped (cfg : Sections) (bytes : List ℕ) (passed : List Line) (H : History) (sink sink' : SinkSeen)
    : Type 0 where
  pub more : List Line
  pub lines_are : lines bytes ≡ passed ++ more
  pub answered : FrontAdded AddsAnswer more cfg H sink sink'

-- what a call leaves that goes on with a piece, and stops in it
abbrev pub PieceGoesOn : Sections → List ℕ → List Line → Cutting → History → Player → SinkSeen → SinkSeen
    → Result (Unit {0}) Halt → Type 0
PieceGoesOn cfg bytes passed held H player sink sink' (Ok _) =
    PieceAnswered cfg bytes passed held H player sink sink'
PieceGoesOn cfg bytes passed held H player sink sink' (Err halted) =
    PieceStopped cfg bytes passed H sink sink' × StopsWriting sink sink' halted

-- what a call leaves that answers the lines which end in a piece, whatever came before
abbrev pub AnswersPiece : List ℕ → Cutting → Cutting → Player → Player → SinkSeen → SinkSeen → Result (Unit {0}) Halt
    → Type 0
AnswersPiece piece held held' was player sink sink' result =
    (cfg : Sections) (bytes : List ℕ) (passed : List Line) (H : History) → HasCut bytes passed held
    → PlayerStands cfg H was → PieceGoesOn cfg (bytes ++ piece) passed held' H player sink sink' result

-- what a call leaves that answers a line
abbrev pub AnswersLine : Line → Player → Player → SinkSeen → SinkSeen → Result (Unit {0}) Halt → Type 0
AnswersLine line was player sink sink' result =
    (cfg : Sections) (H : History) → PlayerStands cfg H was
    → AddsAll (AddsAnswer H line) cfg H player sink sink' result

-- a source was read to its end, and all its lines were answered
pub record AnsweredWhole (cfg : Sections) (H : History) (player : Player) (source source' : SourceSeen)
    (sink sink' : SinkSeen) : Type 0 where
  pub bytes : List ℕ
  pub read : ReadWhole source source' bytes
  pub answered : Added (AddedBy AddsAnswer H (lines bytes)) cfg H player sink sink'

-- all lines that had ended before the last of what was read came were answered
pub record AnsweredSoFar (cfg : Sections) (last : List ℕ) (H : History) (player : Player) (source source' : SourceSeen)
    (sink sink' : SinkSeen) : Type 0 where
  pub bytes : List ℕ
  pub read : ReadPart source source' (bytes ++ last)
  pub answered : Added (AddedBy AddsAnswer H (lines bytes)) cfg H player sink sink'

-- the lines before the read were answered that gave the last bytes below the limit
pub record AnsweredToLimit (cfg : Sections) (H : History) (player : Player) (source source' : SourceSeen)
    (sink sink' : SinkSeen) : Type 0 where
  pub last : List ℕ
  pub few : length last ≤ read_limit
  pub so_far : AnsweredSoFar cfg last H player source source' sink sink'
  pub gave : GaveLimit source source' (so_far.bytes ++ last)

-- some lines of what was read were answered
pub record AnsweredPart (cfg : Sections) (H : History) (source source' : SourceSeen) (sink sink' : SinkSeen)
    : Type 0 where
  pub bytes : List ℕ
  pub read : ReadPart source source' bytes
  pub few : length bytes < input_limit
  pub same : source'.faults ≡ source.faults
  pub answered : FrontAdded AddsAnswer (lines bytes) cfg H sink sink'

-- what a call leaves that answers the lines of a source
abbrev pub AnswersSource : Sections → History → Player → SourceSeen → SourceSeen → SinkSeen → SinkSeen
    → Result (Unit {0}) Halt → Type 0
AnswersSource cfg H player source source' sink sink' (Ok _) =
    AnsweredWhole cfg H player source source' sink sink'
AnswersSource cfg H player source source' sink sink' (Err halt.Read) =
    AnsweredSoFar cfg [] H player source source' sink sink' × CountsOne source.faults source'.faults
AnswersSource cfg H player source source' sink sink' (Err halt.Long) =
    AnsweredToLimit cfg H player source source' sink sink'
AnswersSource cfg H player source source' sink sink' (Err halted) =
    AnsweredPart cfg H source source' sink sink' × StopsWriting sink sink' halted

-- A whole input was encoded, and its whole output written. The messages leave at each neighbour the table that the
-- lines leave.
pub record EncodedWhole (cfg : Sections) (source source' : SourceSeen) (sink sink' : SinkSeen) : Type 0 where
  pub bytes : List ℕ
  pub read : ReadWhole source source' bytes
  pub history : History
  pub encodes : IsEncode cfg bytes history
  pub legal : IsLegal cfg history
  pub served : (n : ℕ) (neighbor : Neighbor) → slice_get cfg.neighbors n ≡ Some neighbor
      → IsServed cfg encodes.answered history n (caps_sent neighbor.settings)
  pub wrote : Wrote (all_of encoded history) sink sink'

-- the history of an input up to some lines
pub record AreAnswered (cfg : Sections) (passed : List Line) (H : History) : Type 0 where
  pub started : Spawn
  pub raised : History
  pub ups : Adding AddsUp (SpawnAsked 0 0 started ∷ []) (numbered 0 cfg.neighbors) raised
  pub answers : Adding AddsAnswer raised passed H

-- Before the last of what was read came, all lines that had ended were answered, and their replies written: so what is
-- answered is written before more is read.
pub record EncodedSoFar (cfg : Sections) (last : List ℕ) (source source' : SourceSeen) (sink sink' : SinkSeen)
    : Type 0 where
  pub bytes : List ℕ
  pub read : ReadPart source source' (bytes ++ last)
  pub history : History
  pub answered : AreAnswered cfg (lines bytes) history
  pub legal : IsLegal cfg history
  pub wrote : Wrote (all_of encoded history) sink sink'

-- the lines before the read were answered that gave the last bytes below the limit
pub record EncodedToLimit (cfg : Sections) (source source' : SourceSeen) (sink sink' : SinkSeen) : Type 0 where
  pub last : List ℕ
  pub few : length last ≤ read_limit
  pub so_far : EncodedSoFar cfg last source source' sink sink'
  pub gave : GaveLimit source source' (so_far.bytes ++ last)

-- A part of an input was encoded, and a front part of its output was written. No message is cut before the input was
-- read to its end.
pub record EncodedPart (cfg : Sections) (source source' : SourceSeen) (sink sink' : SinkSeen) : Type 0 where
  pub bytes : List ℕ
  pub read : ReadPart source source' bytes
  pub few : length bytes < input_limit
  pub same : source'.faults ≡ source.faults
  pub history : History
  pub encodes : IsEncodePart cfg bytes history
  pub late : (encodes.slots ≡ []) ⊎ ReadWhole source source' bytes
  pub legal : IsLegal cfg history
  pub wrote : WrotePart (all_of encoded history) sink sink'

-- the same, or nothing was read, entered or written
pub data EncodedAtMost (cfg : Sections) (source source' : SourceSeen) (sink sink' : SinkSeen) : Type 0 where
  part : EncodedPart cfg source source' sink sink' → EncodedAtMost cfg source source' sink sink'
  unopened : source' ≡ source → sink' ≡ sink → EncodedAtMost cfg source source' sink sink'

-- what encoding leaves, by its status
abbrev pub Encodes : Sections → SourceSeen → SourceSeen → SinkSeen → SinkSeen → Status → Type 0
Encodes cfg source source' sink sink' status.Ok = EncodedWhole cfg source source' sink sink'
Encodes cfg source source' sink sink' status.ReadFault =
    EncodedSoFar cfg [] source source' sink sink' × CountsOne source.faults source'.faults
Encodes cfg source source' sink sink' status.InputLong =
    EncodedToLimit cfg source source' sink sink'
Encodes cfg source source' sink sink' status.WriteFault =
    EncodedPart cfg source source' sink sink' × CountsOne sink.faults sink'.faults
Encodes cfg source source' sink sink' status.NoMemory =
    EncodedAtMost cfg source source' sink sink' × (sink'.faults ≡ sink.faults)
Encodes cfg source source' sink sink' other = ⊥
