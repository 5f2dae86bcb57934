-- A helper's lines that `encode` answers, over a book that is opened by a configuration.
use Rattle.std.specs.Prelude.{ℕ, ◌≡◌, ◌⊎◌, ◌<◌, List, [], ◌++◌, length, Option, None, Some}
use Rattle.std.specs.Prelude.{slice_get}
use Rattle.outside.specs.Seen.{SourceSeen, SinkSeen}
use Rattle.config_model.specs.declared.fault.ConfigFault.{ConfigFault}
use Rattle.config_model.specs.declared.fault.ConfigKind.TheVariants as kind
use Rattle.config_model.specs.declared.sections.Neighbor.{Neighbor}
use Rattle.config_model.specs.declared.slots.Slots.{Slots}
use Rattle.config_model.specs.Sections.{Sections}
use Rattle.config_reader.specs.Files.{Configures}
use Rattle.book_history.specs.Entries.{History}
use Rattle.book_history.specs.Legal.{IsLegal}
use Rattle.answer_texts.specs.Shown.{all_of, encoded}
use Rattle.text_history.specs.Configured.{AreTextSlots, IsConfigAt}
use Rattle.text_history.specs.Encodes.{IsEncode, IsEncodePart, caps_sent}
use Rattle.text_history.specs.Leaving.{IsServed}
use Rattle.script_play.specs.declared.status.Status.{Status}
use Rattle.script_play.specs.declared.status.Status.TheVariants as status
use Rattle.script_play.specs.Encoding.{Encodes}
use Rattle.script_play.specs.Status.{IsUnread}
use Rattle.exa_top.specs.declared.words.Ends.{Ends}
use Rattle.exa_top.specs.Plain.{plain_sections}
use Rattle.exa_top.specs.Played.{CountsUnread}

-- the configuration of a session with these ends
abbrev pub plain_of : Ends → Sections
plain_of ends = plain_sections ends.local_as ends.peer_as ends.local

-- a configuration has a process: lines come from the first one
abbrev pub HasHelper : Sections → Type 0
HasHelper config = 0 < length config.processes

-- the fault of a configuration that has none
abbrev pub no_process : ConfigFault
no_process = record { line = 0; column = 0; kind = kind.NoProcess }

-- the file at a path is a configuration with a process, for the slots of a text command
abbrev pub IsHeardAt : Option (List ℕ → List ℕ) → List ℕ → Sections → Type 0
IsHeardAt content path config =
    (slots : Slots) × AreTextSlots slots × IsConfigAt content path slots config × HasHelper config

-- the file at a path is a configuration that has none
abbrev pub IsUnheardAt : Option (List ℕ → List ℕ) → List ℕ → Slots → Type 0
IsUnheardAt content path slots =
    (config : Sections) × IsConfigAt content path slots config × (config.processes ≡ [])

-- the content of a path is told, and is a configuration with a process
abbrev pub IsToldHeard : Option (List ℕ → List ℕ) → List ℕ → Type 0
IsToldHeard None path = ⊥
IsToldHeard (Some content) path =
    (slots : Slots) → AreTextSlots slots
    → (config : Sections) × Configures (content path) slots config × HasHelper config

-- the content of a path is told, and is a configuration that has none
abbrev pub IsToldUnheard : Option (List ℕ → List ℕ) → List ℕ → Type 0
IsToldUnheard None path = ⊥
IsToldUnheard (Some content) path =
    (slots : Slots) → AreTextSlots slots
    → (config : Sections) × Configures (content path) slots config × (config.processes ≡ [])

-- each neighbour's messages leave just the table that the answered lines leave at it
abbrev pub AreServed : Sections → History → History → Type 0
AreServed config answered history =
    (n : ℕ) (neighbor : Neighbor) → slice_get config.neighbors n ≡ Some neighbor
    → IsServed config answered history n (caps_sent neighbor.settings)

-- An output is what is printed of a legal history, whose events are those of a helper's lines: first the replies, which
-- come early, and then the messages, which come late.
pub record IsEncoded (config : Sections) (input early late : List ℕ) : Type 0 where
  pub history : History
  pub encodes : IsEncode config input history
  pub legal : IsLegal config history
  pub served : AreServed config encodes.answered history
  pub early_is : early ≡ all_of encoded encodes.answered
  pub output_is : all_of encoded history ≡ early ++ late

-- a history goes no further than lines were answered
abbrev pub IsWithin : History → History → Type 0
IsWithin history answered = (more : History) × (answered ≡ more ++ history)

-- An output is what is printed of a legal history whose events begin those of a helper's lines. What comes late is
-- printed of events behind all lines.
pub record IsEncodedPart (config : Sections) (input early late : List ℕ) : Type 0 where
  pub history : History
  pub begins : IsEncodePart config input history
  pub legal : IsLegal config history
  pub output_is : all_of encoded history ≡ early ++ late
  pub parted :
      (IsWithin history begins.answered × (late ≡ [])) ⊎ (early ≡ all_of encoded begins.answered)

-- the same, or nothing, as before the book is opened
abbrev pub IsEncodedAtMost : Sections → List ℕ → List ℕ → List ℕ → Type 0
IsEncodedAtMost config input early late =
    ((early ≡ []) × (late ≡ [])) ⊎ IsEncodedPart config input early late

-- what encoding over a configuration leaves, by its status: it has no process, and nothing was read or written; or the
-- lines were encoded
abbrev pub EncodesHeard : Sections → SourceSeen → SourceSeen → SinkSeen → SinkSeen → Status → Type 0
EncodesHeard config source source' sink sink' ends =
    ((config.processes ≡ []) × (ends ≡ status.ConfigRefused no_process) × (source' ≡ source) × (sink' ≡ sink))
    ⊎ (HasHelper config × Encodes config source source' sink sink' ends)

-- the file gave no configuration with a process, and nothing was read of the lines or written
pub record IsUnencoded (content : Option (List ℕ → List ℕ)) (path : List ℕ) (source source' : SourceSeen)
    (sink sink' : SinkSeen) (files files' : ℕ) (ends : Status) : Type 0 where
  pub slots : Slots
  pub slots_are : AreTextSlots slots
  pub unread :
      IsUnread content path slots ends ⊎ (IsUnheardAt content path slots × (ends ≡ status.ConfigRefused no_process))
  pub source_same : source' ≡ source
  pub sink_same : sink' ≡ sink
  pub counts : CountsUnread files files' ends

-- the lines were encoded over the file's configuration
pub record IsEncodedOver (content : Option (List ℕ → List ℕ)) (path : List ℕ) (source source' : SourceSeen)
    (sink sink' : SinkSeen) (files files' : ℕ) (ends : Status) : Type 0 where
  pub config : Sections
  pub heard : IsHeardAt content path config
  pub encodes : Encodes config source source' sink sink' ends
  pub unopened : files' ≡ files

-- what encoding over a file's configuration leaves, by its status
abbrev pub EncodesFile : Option (List ℕ → List ℕ) → List ℕ → SourceSeen → SourceSeen → SinkSeen → SinkSeen → ℕ → ℕ
    → Status → Type 0
EncodesFile content path source source' sink sink' files files' ends =
    IsUnencoded content path source source' sink sink' files files' ends
    ⊎ IsEncodedOver content path source source' sink sink' files files' ends
