-- A list of nodes, each kept at the place one above its number, since place 0 is the chain's own.
use Rattle.std.specs.Prelude.{◌≡◌, ℕ, ◌-◌, ◌<◌, ◌^◌, false, List, [], ◌∷◌, ◌==◌, if◌then◌else◌, Option, Some, None}
use Rattle.linked_pending.specs.Listing.{Listing, has}

-- the nodes at these places
abbrev pub nodes_at : List ℕ → List ℕ
nodes_at [] = []
nodes_at (first ∷ rest) = (first - 1) ∷ nodes_at rest

-- the node at a place, if it isn't the chain's own
abbrev pub node_at : ℕ → Option ℕ
node_at place = if place == 0 then None else Some (place - 1)

-- the chain's own place isn't in the list, and there are as many places as a usize can count
pub record IsOrder (chain : Listing) : Type 0 where
  pub no_root : has 0 chain.items ≡ false
  pub counted : chain.room < 2 ^ 64
