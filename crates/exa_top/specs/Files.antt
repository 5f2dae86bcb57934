-- Files that a command names.
use Rattle.std.specs.Prelude.{ℕ, ◌≡◌, ⊤, List}
use Rattle.std.specs.declared.option.Option.{Option}
use Rattle.outside.specs.declared.reading.Unread.{Unread}
use Rattle.outside.specs.declared.reading.Unread.TheVariants as unread
use Rattle.outside.specs.Opening.{IsLonger}
use Rattle.config_reader.specs.declared.fault.ConfigError.{ConfigError}
use Rattle.config_reader.specs.declared.fault.ConfigError.TheVariants as error
use Rattle.config_reader.specs.Files.{too_long}
use Rattle.script_play.specs.declared.status.Status.{Status}
use Rattle.script_play.specs.declared.status.Status.TheVariants as status

-- how many bytes a file may have
abbrev pub max_file : ℕ
max_file = 1048576

-- why the bytes of a file aren't had, as a status: it wasn't read, it is too long, or memory was wanting
abbrev pub IsLost : Option (List ℕ → List ℕ) → List ℕ → Status → Type 0
IsLost content path status.ConfigRead = ⊤
IsLost content path (status.ConfigRefused fault) = IsLonger content path max_file × (fault ≡ too_long)
IsLost content path status.NoMemory = ⊤
IsLost content path _ = ⊥

-- the status of a file that wasn't read whole
abbrev pub status_unread : Unread → Status
status_unread unread.Memory = status.NoMemory
status_unread unread.Fault = status.ConfigRead
status_unread unread.Long = status.ConfigRefused too_long

-- the status of a file that doesn't say what it has to
abbrev pub status_wrong : ConfigError → Status
status_wrong (error.Refused fault) = status.ConfigRefused fault
status_wrong error.NoMemory = status.NoMemory
