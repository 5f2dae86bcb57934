-- Which neighbours a command is for.
use Rattle.std.specs.Prelude.{ℕ, ◌≡◌, List, Option, Any, IfSome, IsSomeAnd, slice_get}
use Rattle.route_values.specs.declared.addr.Family.{Family}
use Rattle.route_values.specs.declared.pick.Pick.{Pick}
use Rattle.route_values.specs.Addr.{family_of}
use Rattle.route_values.specs.Pick.{IsPicked}
use Rattle.config_model.specs.declared.sections.Neighbor.{Neighbor}
use Rattle.config_model.specs.Sections.{Sections}

-- a neighbour's list has the name of a process
abbrev pub Hears : Neighbor → List ℕ → Type 0
Hears neighbor process = Any (λ name. name.items ≡ process) neighbor.processes

-- the neighbour hears the process, the selector means it, and for a command with the own address as its next hop that
-- address has the command's family
pub record IsSelected (neighbor : Neighbor) (process : List ℕ) (pick : List Pick) (family : Option Family)
    : Type 0 where
  pub hears : Hears neighbor process
  pub picked : IsPicked pick neighbor.settings
  pub hop : IfSome family (λ wanted. wanted ≡ family_of neighbor.settings.local)

-- there is an n-th neighbour, and it is selected
abbrev pub IsSelectedAt : Sections → List ℕ → List Pick → Option Family → ℕ → Type 0
IsSelectedAt s process pick family n =
    IsSomeAnd (slice_get s.neighbors n) (λ neighbor. IsSelected neighbor process pick family)
