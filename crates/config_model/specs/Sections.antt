-- The sections of a configuration: processes and neighbours in the file's order.
use Rattle.std.specs.Prelude.{ℕ, Bool, List, Option, nat_eq, position, length, sum_by}
use Rattle.std.specs.Cmp.Lexicographic.{pointwise}
use Rattle.route_values.specs.declared.addr.Addr.{Addr}
use Rattle.route_values.specs.Key.{same_addr}
use Rattle.config_model.specs.declared.sections.Process.{Process}
use Rattle.config_model.specs.declared.sections.Neighbor.{Neighbor}

-- what a contract sees of a draft and of a configuration
pub record Sections : Type 0 where
  pub processes : List Process
  pub neighbors : List Neighbor

-- the sections of these two lists
abbrev pub sections : List Process → List Neighbor → Sections
sections processes neighbors = record { processes = processes; neighbors = neighbors }

-- whether two names are the same
abbrev pub same_name : List ℕ → List ℕ → Bool
same_name = pointwise nat_eq

-- where the process of a name stands
abbrev pub place_of_name : List Process → List ℕ → Option ℕ
place_of_name processes name = position (λ process. same_name process.name.items name) processes

-- where the neighbour of an address stands
abbrev pub place_of_peer : List Neighbor → Addr → Option ℕ
place_of_peer neighbors peer = position (λ neighbor. same_addr neighbor.settings.peer peer) neighbors

-- the static routes of all neighbours, as a number
abbrev pub routes_in : List Neighbor → ℕ
routes_in neighbors = sum_by (λ neighbor. length neighbor.statics) neighbors
