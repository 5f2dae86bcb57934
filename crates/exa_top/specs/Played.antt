-- A script that `play` plays, over a book that is opened by the configuration of a file.
use Rattle.std.specs.Prelude.{ℕ, ◌≡◌, ◌⊎◌, List, [], Option, Some, None, ⊤}
use Rattle.outside.specs.Seen.{SourceSeen, SinkSeen}
use Rattle.outside.specs.Told.{CountsOne}
use Rattle.config_model.specs.declared.slots.Slots.{Slots}
use Rattle.config_model.specs.Sections.{Sections}
use Rattle.book_history.specs.Entries.{History}
use Rattle.book_history.specs.Legal.{IsLegal}
use Rattle.answer_texts.specs.Shown.{all_of, shown}
use Rattle.text_history.specs.Configured.{AreTextSlots, IsConfigAt}
use Rattle.text_history.specs.Plays.{IsPlay, IsPlayPart, IsRefusedAt}
use Rattle.script_play.specs.declared.status.Status.{Status}
use Rattle.script_play.specs.declared.status.Status.TheVariants as status
use Rattle.script_play.specs.Status.{IsUnread}
use Rattle.script_play.specs.Streams.{Plays}

-- an output is all that is printed of a legal history, which is one that the events may have
pub record IsShown (content : Option (List ℕ → List ℕ)) (path : List ℕ) (Events : History → Type 0)
    (output : List ℕ) : Type 0 where
  pub slots : Slots
  pub slots_are : AreTextSlots slots
  pub config : Sections
  pub configured : IsConfigAt content path slots config
  pub history : History
  pub events : Events history
  pub legal : IsLegal config history
  pub output_is : output ≡ all_of shown history

-- the output of a script that is played to its end
abbrev pub IsPlayed : Option (List ℕ → List ℕ) → List ℕ → List ℕ → List ℕ → Type 0
IsPlayed content path script = IsShown content path (IsPlay content script)

-- that of some events at the front of a script, or nothing, as before the book is opened
abbrev pub IsPlayedPart : Option (List ℕ → List ℕ) → List ℕ → List ℕ → List ℕ → Type 0
IsPlayedPart content path script output = (output ≡ []) ⊎ IsShown content path (IsPlayPart content script) output

-- where what a source has left is told, it is a script that is refused at a line behind a history
abbrev pub IsLeftRefused : Option (List ℕ → List ℕ) → Option (List ℕ) → ℕ → History → Type 0
IsLeftRefused content None number history = ⊤
IsLeftRefused content (Some rest) number history = IsRefusedAt content rest number history

-- what a source has left is a script that is refused at a line, behind a legal history
pub record IsBadScript (content : Option (List ℕ → List ℕ)) (path : List ℕ) (left : Option (List ℕ)) : Type 0 where
  pub slots : Slots
  pub slots_are : AreTextSlots slots
  pub config : Sections
  pub configured : IsConfigAt content path slots config
  pub number : ℕ
  pub history : History
  pub legal : IsLegal config history
  pub refused : IsLeftRefused content left number history

-- what a source has left is told, and is a script that is refused at no line, whatever legal history stands before it
abbrev pub IsToldScript : Option (List ℕ → List ℕ) → List ℕ → Option (List ℕ) → Type 0
IsToldScript content path None = ⊥
IsToldScript content path (Some rest) =
    (slots : Slots) (config : Sections) (number : ℕ) (history : History) → AreTextSlots slots
    → IsConfigAt content path slots config → IsLegal config history → IsRefusedAt content rest number history → ⊥

-- one fault of files was counted where the file wasn't read, and else none
abbrev pub CountsUnread : ℕ → ℕ → Status → Type 0
CountsUnread files files' status.ConfigRead = CountsOne files files'
CountsUnread files files' _ = files' ≡ files

-- the file gave no configuration, and nothing was read of the script or written
pub record IsUnplayed (content : Option (List ℕ → List ℕ)) (path : List ℕ) (source source' : SourceSeen)
    (sink sink' : SinkSeen) (files files' : ℕ) (ends : Status) : Type 0 where
  pub slots : Slots
  pub slots_are : AreTextSlots slots
  pub unread : IsUnread content path slots ends
  pub source_same : source' ≡ source
  pub sink_same : sink' ≡ sink
  pub counts : CountsUnread files files' ends

-- the script was played over the file's configuration
pub record IsPlayedOver (content : Option (List ℕ → List ℕ)) (path : List ℕ) (source source' : SourceSeen)
    (sink sink' : SinkSeen) (files files' : ℕ) (ends : Status) : Type 0 where
  pub slots : Slots
  pub slots_are : AreTextSlots slots
  pub config : Sections
  pub configured : IsConfigAt content path slots config
  pub plays : Plays content config source source' sink sink' files files' ends

-- what playing over a file's configuration leaves, by its status
abbrev pub PlaysFile : Option (List ℕ → List ℕ) → List ℕ → SourceSeen → SourceSeen → SinkSeen → SinkSeen → ℕ → ℕ
    → Status → Type 0
PlaysFile content path source source' sink sink' files files' ends =
    IsUnplayed content path source source' sink sink' files files' ends
    ⊎ IsPlayedOver content path source source' sink sink' files files' ends
