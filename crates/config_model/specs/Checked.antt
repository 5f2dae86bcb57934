-- When a draft is a configuration: each process that a neighbour hears has a section.
use Rattle.std.specs.Prelude.{ℕ, ◌≡◌, List, Option, None, Result, Ok, Err, is_some, is_none, find}
use Rattle.std.specs.Prelude.{if◌then◌else◌}
use Rattle.std.specs.List.{flat_map}
use Rattle.arrayvec.specs.ArrayVec.{ArrayVec}
use Rattle.config_model.specs.declared.sections.Process.{Process}
use Rattle.config_model.specs.declared.sections.Neighbor.{Neighbor}
use Rattle.config_model.specs.declared.fault.ConfigFault.{ConfigFault}
use Rattle.config_model.specs.declared.fault.ConfigKind.TheVariants as kind
use Rattle.config_model.specs.Sections.{Sections, place_of_name}
use Rattle.config_model.specs.Drafts.{IsDraft}

-- the first of some names that no process has
abbrev pub unknown_in : List Process → List (ArrayVec ℕ) → Option (ArrayVec ℕ)
unknown_in processes names = find (λ name. is_none (place_of_name processes name.items)) names

-- the names that neighbours hear, in the file's order
abbrev pub names_in : List Neighbor → List (ArrayVec ℕ)
names_in neighbors = flat_map (λ neighbor. neighbor.processes) neighbors

-- the first name that a neighbour hears and no process has
abbrev pub first_unknown_of : List Process → List Neighbor → Option (ArrayVec ℕ)
first_unknown_of processes neighbors = unknown_in processes (names_in neighbors)

-- the same of sections
abbrev pub first_unknown : Sections → Option (ArrayVec ℕ)
first_unknown s = first_unknown_of s.processes s.neighbors

-- a draft without such a name
pub record IsConfig (s : Sections) : Type 0 where
  pub draft : IsDraft s
  pub known : first_unknown s ≡ None

-- the fault of a name that no process has, without its place
abbrev pub unknown_process : ConfigFault
unknown_process = record { line = 0; column = 0; kind = kind.Process }

-- what becomes of a draft
abbrev pub checked : Sections → Result Sections ConfigFault
checked s = if is_some (first_unknown s) then Err unknown_process else Ok s
