-- One list in a table of links. Place 0 stands before its first place and behind its last.
use Rattle.std.specs.Prelude.{◌≡◌, ℕ, ◌<◌, true, false, List, ◌∷◌, length}
use Rattle.linked_pending.specs.Listing.{has, AreApart}
use Rattle.linked_pending.specs.Links.{link, walk, Leads, AreInverse}

-- the links of one list, where a place that isn't in it is linked to itself
pub record Holds (next items : List ℕ) : Type 0 where
  pub leads : Leads (link next) 0 items 0
  pub apart : AreApart (0 ∷ items)
  pub alone : (place : ℕ) → place < length next → has place (0 ∷ items) ≡ false → link next place ≡ place
  pub within : (place : ℕ) → has place items ≡ true → place < length next

-- links both ways that hold one list, of this length
pub record IsChain (next prev : List ℕ) (len : ℕ) : Type 0 where
  pub links : AreInverse next prev
  pub holds : Holds next (walk len (link next) 0)
