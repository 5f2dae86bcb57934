-- The configuration that is read from a file by its path.
use Rattle.std.specs.Prelude.{ℕ, ◌≡◌, ⊤, List}
use Rattle.std.specs.declared.option.Option.{Option}
use Rattle.outside.specs.Opening.{IsContent}
use Rattle.outside.specs.declared.reading.Unread.{Unread}
use Rattle.outside.specs.declared.reading.Unread.TheVariants as unread
use Rattle.config_model.specs.declared.fault.ConfigFault.{ConfigFault}
use Rattle.config_model.specs.declared.slots.Slots.{Slots}
use Rattle.config_model.specs.Sections.{Sections}
use Rattle.config_reader.specs.declared.fault.ConfigError.{ConfigError}
use Rattle.config_reader.specs.declared.fault.ConfigError.TheVariants as error
use Rattle.config_reader.specs.Files.{Configures, IsFirstFault, too_long}
use Rattle.book_history.specs.declared.outcomes.NotRead.{NotRead}
use Rattle.book_history.specs.declared.outcomes.NotRead.TheVariants as not_read

-- the bytes of the file at a path, which they are where content is told, are a configuration
pub record IsConfigAt (content : Option (List ℕ → List ℕ)) (path : List ℕ) (slots : Slots) (config : Sections)
    : Type 0 where
  pub bytes : List ℕ
  pub are : IsContent content path bytes
  pub configures : Configures bytes slots config

-- the bytes of the file at a path, which they are where content is told, have this first fault
pub record IsFaultAt (content : Option (List ℕ → List ℕ)) (path : List ℕ) (slots : Slots) (fault : ConfigFault)
    : Type 0 where
  pub bytes : List ℕ
  pub are : IsContent content path bytes
  pub first : IsFirstFault bytes slots fault

-- why the file at a path gives no configuration
abbrev pub IsNoneAt : Option (List ℕ → List ℕ) → List ℕ → Slots → NotRead → Type 0
IsNoneAt content path slots not_read.ReadFault = ⊤
IsNoneAt content path slots (not_read.Refused fault) = IsFaultAt content path slots fault
IsNoneAt content path slots not_read.NoMemory = ⊤

-- why there is none where a file wasn't read whole
abbrev pub why_unread : Unread → NotRead
why_unread unread.Memory = not_read.NoMemory
why_unread unread.Fault = not_read.ReadFault
why_unread unread.Long = not_read.Refused too_long

-- why there is none where a file's bytes are none
abbrev pub why_wrong : ConfigError → NotRead
why_wrong (error.Refused fault) = not_read.Refused fault
why_wrong error.NoMemory = not_read.NoMemory
