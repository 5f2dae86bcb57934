-- The configuration of commands that name no file.
use Rattle.std.proofs.Common.{ℕ, ◌≡◌, refl, subst, sym}
use Rattle.std.specs.List.{IsDistinct}
use Rattle.config_model.specs.declared.sections.Neighbor.{Neighbor}
use Rattle.config_model.specs.Drafts.{IsNeighbor}
use Rattle.exa_top.specs.Plain.{plain_neighbor}

-- its neighbour is one
pub plain_is : (local_as peer_as local : ℕ) (neighbor : Neighbor) → neighbor ≡ plain_neighbor local_as peer_as local
    → IsNeighbor neighbor
unfolding IsDistinct
plain_is local_as peer_as local neighbor is =
    subst IsNeighbor (sym is) (record { family = refl; keys = tt; routes = tt })
