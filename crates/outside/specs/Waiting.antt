-- What waits to be opened in memory, in order.
use Rattle.std.specs.Prelude.{ℕ, ◌≡◌, List, [], ◌∷◌, map, reverse}

-- the first of the contents that wait is taken, and nothing where none waits
abbrev pub TakesNext : List (List ℕ) → List (List ℕ) → List ℕ → Type 0
TakesNext [] after content = (after ≡ []) × (content ≡ [])
TakesNext (first ∷ others) after content = (after ≡ others) × (content ≡ first)

module _ {A : Type 0} where
  -- the contents of those that are ready, of which the last one is opened first
  abbrev pub waiting_in : (A → List ℕ) → List A → List (List ℕ)
  waiting_in read ready = map read (reverse ready)
