-- What a file says is one thing.
use Rattle.std.specs.Prelude.{ℕ, ◌≡◌, List}
use Rattle.config_model.specs.declared.fault.ConfigFault.{ConfigFault}
use Rattle.config_model.specs.declared.slots.Slots.{Slots}
use Rattle.config_model.specs.Sections.{Sections}
use Rattle.config_reader.specs.Files.{Configures, IsFirstFault}

-- no bytes are two configurations
abbrev pub FilesGiveOne : Type 0
FilesGiveOne =
    (bytes : List ℕ) (slots : Slots) (one other : Sections) → Configures bytes slots one
    → Configures bytes slots other → one ≡ other

-- no bytes have two first faults
abbrev pub FilesFaultOnce : Type 0
FilesFaultOnce =
    (bytes : List ℕ) (slots : Slots) (one other : ConfigFault) → IsFirstFault bytes slots one
    → IsFirstFault bytes slots other → one ≡ other

-- none are a configuration and have a first fault
abbrev pub FilesDoOne : Type 0
FilesDoOne =
    (bytes : List ℕ) (slots : Slots) (configured : Sections) (fault : ConfigFault)
    → Configures bytes slots configured → IsFirstFault bytes slots fault → ⊥
