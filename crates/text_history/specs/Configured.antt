-- The configuration that is read from a file by its path.
use Rattle.std.specs.Prelude.{ℕ, ◌≡◌, List}
use Rattle.std.specs.declared.option.Option.{Option}
use Rattle.outside.specs.Opening.{IsContent}
use Rattle.config_model.specs.declared.fault.ConfigFault.{ConfigFault}
use Rattle.config_model.specs.declared.slots.Slots.{Slots}
use Rattle.config_model.specs.Limits.{max_helpers, max_peers}
use Rattle.config_model.specs.Sections.{Sections}
use Rattle.config_reader.specs.Files.{Configures, IsFirstFault}

-- how many processes and neighbours a text command reads a configuration for
abbrev pub AreTextSlots : Slots → Type 0
AreTextSlots slots = (slots.helpers ≡ max_helpers) × (slots.peers ≡ max_peers)

-- the bytes of the file at a path, which they are where content is told, are a configuration
pub record IsConfigAt (content : Option (List ℕ → List ℕ)) (path : List ℕ) (slots : Slots) (config : Sections)
    : Type 0 where
  pub bytes : List ℕ
  pub are : IsContent content path bytes
  pub configures : Configures bytes slots config

-- the bytes of the file at a path, which they are where content is told, have this first fault
pub record IsFaultAt (content : Option (List ℕ → List ℕ)) (path : List ℕ) (slots : Slots) (fault : ConfigFault)
    : Type 0 where
  pub bytes : List ℕ
  pub are : IsContent content path bytes
  pub first : IsFirstFault bytes slots fault
