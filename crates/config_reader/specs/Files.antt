-- A configuration file.
use Rattle.std.specs.Prelude.{ℕ, ◌≡◌, ◌⊎◌, ◌<◌, ◌≤◌, Bool, nat_le, is_none, codes, find, List, [], ◌++◌, length}
use Rattle.std.specs.Prelude.{Option, Some, None, Result, Ok, Err, option_map}
use Rattle.token_reader.specs.FileTokens.{tokens_of_file, end_of_file}
use Rattle.config_model.specs.declared.fault.ConfigFault.{ConfigFault}
use Rattle.config_model.specs.declared.fault.ConfigKind.TheVariants as kind
use Rattle.config_model.specs.declared.sections.Process.{Process as ProcessSection}
use Rattle.config_model.specs.declared.slots.Slots.{Slots}
use Rattle.config_model.specs.Drafts.{with_process, with_neighbor}
use Rattle.config_model.specs.Sections.{Sections, sections, place_of_name}
use Rattle.config_reader.specs.declared.fault.ConfigError.{ConfigError}
use Rattle.config_reader.specs.declared.fault.ConfigError.TheVariants.{Refused, NoMemory}
use Rattle.config_reader.specs.declared.keywords.Section.{Section}
use Rattle.config_reader.specs.declared.keywords.Section.TheVariants.{Process, Neighbor}
use Rattle.config_reader.specs.declared.written.FileRead.{FileRead}
use Rattle.config_reader.specs.declared.written.Heard.{Heard}
use Rattle.config_reader.specs.declared.written.NeighborRead.{NeighborRead}
use Rattle.config_reader.specs.Rules.{Rule, Outcome, Gives, Stops, ◌>>=◌, saying, fault_at, where_so, is_end, until}
use Rattle.config_reader.specs.Words.{word_or}
use Rattle.config_reader.specs.Neighbors.{neighbor_at}
use Rattle.config_reader.specs.Processes.{process_at}

-- no section is read
abbrev pub nothing_read : FileRead
nothing_read = record { sections = sections [] []; heard = [] }

-- the word that a section begins with
abbrev pub section_word : Section → List ℕ
section_word Process = codes "process"
section_word Neighbor = codes "neighbor"

abbrev pub IsSection : List ℕ → Section → Type 0
IsSection text which = text ≡ section_word which

-- whether there are as many sections of a sort as there may be
abbrev pub is_full : Slots → Sections → Section → Bool
is_full slots read Process = nat_le slots.helpers (length read.processes)
is_full slots read Neighbor = nat_le slots.peers (length read.neighbors)

-- with one more process, or one more neighbour
abbrev pub with_read : FileRead → ProcessSection → FileRead
with_read read one = record read { sections = with_process read.sections one }

abbrev pub with_heard : FileRead → NeighborRead → FileRead
with_heard read one = record {
  sections = with_neighbor read.sections one.neighbor;
  heard = read.heard ++ one.heard;
}

-- what stands behind a section's first word
abbrev pub section_body : FileRead → Section → Rule FileRead
section_body read Process = process_at read.sections.processes >>= λ one. saying (with_read read one)
section_body read Neighbor = neighbor_at read.sections.neighbors >>= λ one. saying (with_heard read one)

-- a section, if there may be a further one
abbrev pub section_at : Slots → FileRead → Rule FileRead
section_at slots read = do
  which ← word_or IsSection (λ which. where_so kind.Many (is_full slots read.sections which))
  section_body read which

-- sections up to the end
abbrev pub sections_read : Slots → Rule FileRead
sections_read slots = until is_end (section_at slots) nothing_read

-- the first pass
abbrev pub first_pass : Slots → List ℕ → Outcome FileRead → Type 0
first_pass slots bytes outcome = sections_read slots (end_of_file bytes) (tokens_of_file bytes) outcome

-- the second pass: the first name that is heard and that no process has
abbrev pub stranger : FileRead → Option Heard
stranger read = find (λ one. is_none (place_of_name read.sections.processes one.name.items)) read.heard

-- what becomes of sections that are read
abbrev pub IsSecond : FileRead → Result Sections ConfigError → Type 0
IsSecond read (Ok configured) = (stranger read ≡ None) × (configured ≡ read.sections)
IsSecond read (Err (Refused fault)) =
    (one : Heard) × (stranger read ≡ Some one) × (fault ≡ fault_at kind.Process one.place)
IsSecond read (Err NoMemory) = ⊥

-- the bytes are a configuration with these sections, for so many slots
abbrev pub Configures : List ℕ → Slots → Sections → Type 0
Configures bytes slots configured =
    (length bytes ≤ 1048576) × (read : FileRead) × first_pass slots bytes (Gives read []) × (stranger read ≡ None)
    × (configured ≡ read.sections)

-- the fault of a file that is too long
abbrev pub too_long : ConfigFault
too_long = record { line = 0; column = 0; kind = kind.Long }

-- the first fault of the second pass
abbrev pub IsStranger : List ℕ → Slots → ConfigFault → Type 0
IsStranger bytes slots fault =
    (read : FileRead) × (one : Heard) × first_pass slots bytes (Gives read []) × (stranger read ≡ Some one)
    × (fault ≡ fault_at kind.Process one.place)

-- the bytes' first fault: they are too many, the first pass has one, or else the second
abbrev pub IsFirstFault : List ℕ → Slots → ConfigFault → Type 0
IsFirstFault bytes slots fault =
    ((1048576 < length bytes) × (fault ≡ too_long))
    ⊎ ((length bytes ≤ 1048576) × (first_pass slots bytes (Stops fault) ⊎ IsStranger bytes slots fault))

-- what reading a file answers; want of memory may come in place of either
abbrev pub IsRead : List ℕ → Slots → Result Sections ConfigError → Type 0
IsRead bytes slots (Ok configured) = Configures bytes slots configured
IsRead bytes slots (Err (Refused fault)) = IsFirstFault bytes slots fault
IsRead bytes slots (Err NoMemory) = Unit {0}
