-- A file of a health check.
use Rattle.std.specs.Prelude.{ℕ, ◌≡◌, ◌⊎◌, ◌<◌, ◌≤◌, List, [], length, Some, None, Result, Ok, Err}
use Rattle.token_reader.specs.FileTokens.{tokens_of_file, end_of_file}
use Rattle.config_model.specs.declared.fault.ConfigFault.{ConfigFault}
use Rattle.config_model.specs.declared.fault.ConfigKind.{ConfigKind}
use Rattle.config_model.specs.declared.fault.ConfigKind.TheVariants as kind
use Rattle.config_reader.specs.declared.fault.ConfigError.{ConfigError}
use Rattle.config_reader.specs.declared.fault.ConfigError.TheVariants.{Refused, NoMemory}
use Rattle.config_reader.specs.Rules.{Outcome, Gives, Stops}
use Rattle.health_core.specs.declared.health.Health.{Health}
use Rattle.health_core.specs.declared.written.Written.{Written}
use Rattle.health_core.specs.Statements.{statements_read, health_of}

-- what becomes of the tokens of a file
abbrev pub passes : List ℕ → Outcome Written → Type 0
passes bytes outcome = statements_read (end_of_file bytes) (tokens_of_file bytes) outcome

-- the bytes say this
abbrev pub SaysHealth : List ℕ → Health → Type 0
SaysHealth bytes health =
    (length bytes ≤ 1048576) × (written : Written) × passes bytes (Gives written [])
    × (health_of written ≡ Some health)

-- a fault of the whole file, which has no place
abbrev pub without_place : ConfigKind → ConfigFault
without_place kind = record { line = 0; column = 0; kind = kind }

-- the statements have no fault, but one that is needed isn't among them
abbrev pub Lacks : List ℕ → Type 0
Lacks bytes = (written : Written) × passes bytes (Gives written []) × (health_of written ≡ None)

-- the bytes' first fault: they are too many, a statement has one, or a statement is missing
abbrev pub HasFirstFault : List ℕ → ConfigFault → Type 0
HasFirstFault bytes fault =
    ((1048576 < length bytes) × (fault ≡ without_place kind.Long))
    ⊎ ((length bytes ≤ 1048576) × (passes bytes (Stops fault) ⊎ (Lacks bytes × (fault ≡ without_place kind.Missing))))

-- what reading a file answers; want of memory may come in place of either
abbrev pub ReadsHealth : List ℕ → Result Health ConfigError → Type 0
ReadsHealth bytes (Ok health) = SaysHealth bytes health
ReadsHealth bytes (Err (Refused fault)) = HasFirstFault bytes fault
ReadsHealth bytes (Err NoMemory) = Unit {0}

-- a file says one thing: one health check or one first fault, and never both
abbrev pub FilesSayOne : Type 0
FilesSayOne = (bytes : List ℕ) (one other : Health) → SaysHealth bytes one → SaysHealth bytes other → one ≡ other

abbrev pub FilesFaultOnce : Type 0
FilesFaultOnce =
    (bytes : List ℕ) (one other : ConfigFault) → HasFirstFault bytes one → HasFirstFault bytes other → one ≡ other

abbrev pub FilesDoOne : Type 0
FilesDoOne = (bytes : List ℕ) (health : Health) (fault : ConfigFault) → SaysHealth bytes health
    → HasFirstFault bytes fault → ⊥
