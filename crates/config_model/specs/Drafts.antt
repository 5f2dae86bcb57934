-- What a draft keeps of its sections.
use Rattle.std.specs.Prelude.{◌≡◌, ◌≤◌, [], ◌∷◌, ◌++◌, map, length}
use Rattle.std.specs.List.{AllByRecursion, IsDistinct}
use Rattle.route_values.specs.declared.settings.Settings.{Settings}
use Rattle.route_values.specs.Addr.{family_of}
use Rattle.route_values.specs.Key.{family_of_key, same_addr, same_key}
use Rattle.route_values.specs.Limits.{counts_written, IsWithinLimits}
use Rattle.route_values.specs.Sent.{hop_sent}
use Rattle.route_values.specs.Settings.{side_of}
use Rattle.config_model.specs.declared.sections.Process.{Process}
use Rattle.config_model.specs.declared.sections.Neighbor.{Neighbor}
use Rattle.config_model.specs.declared.sections.StaticRoute.{StaticRoute}
use Rattle.config_model.specs.Limits.{max_helpers, max_peers, max_routes}
use Rattle.config_model.specs.Sections.{Sections, sections, same_name, routes_in}

-- the next hop that a static route is sent with has its key's family, and no list of its attributes is too long
pub record IsRoute (settings : Settings) (route : StaticRoute) : Type 0 where
  pub family : family_of (hop_sent route.attrs.hop (side_of settings)) ≡ family_of_key route.key
  pub limits : IsWithinLimits (counts_written route.attrs)

-- the own address has the neighbour's family, and its static routes are routes whose keys differ
pub record IsNeighbor (neighbor : Neighbor) : Type 0 where
  pub family : family_of neighbor.settings.local ≡ family_of neighbor.settings.peer
  pub keys : IsDistinct same_key (map (λ route. route.key) neighbor.statics)
  pub routes : AllByRecursion (IsRoute neighbor.settings) neighbor.statics

-- names and addresses differ, each neighbour is one, and no limit is passed
pub record IsDraft (s : Sections) : Type 0 where
  pub names : IsDistinct same_name (map (λ process. process.name.items) s.processes)
  pub peers : IsDistinct same_addr (map (λ neighbor. neighbor.settings.peer) s.neighbors)
  pub each : AllByRecursion IsNeighbor s.neighbors
  pub few_processes : length s.processes ≤ max_helpers
  pub few_neighbors : length s.neighbors ≤ max_peers
  pub few_routes : routes_in s.neighbors ≤ max_routes

-- the sections with one more process at the end
abbrev pub with_process : Sections → Process → Sections
with_process s process = sections (s.processes ++ process ∷ []) s.neighbors

-- the sections with one more neighbour at the end
abbrev pub with_neighbor : Sections → Neighbor → Sections
with_neighbor s neighbor = sections s.processes (s.neighbors ++ neighbor ∷ [])
