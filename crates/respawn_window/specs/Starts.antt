-- The starts of a helper, the first one first, by their moments in milliseconds.
use Rattle.std.specs.Prelude.{ℕ, ◌≡◌, ◌+◌, ◌-◌, ◌<◌, ◌≤◌, max, nat_lt, Bool, true, false, List, [], ◌∷◌, ◌++◌, length}
use Rattle.std.specs.Prelude.{drop}
use Rattle.std.specs.Prelude.{slice_index, count_by}
use Rattle.std.specs.List.Sorted.{IsNonDecreasing}

-- the greatest of some moments, or 0 where there is none
abbrev pub greatest : List ℕ → ℕ
greatest [] = 0
greatest (start ∷ starts) = max start (greatest starts)

-- a moment behind some starts: one below the greatest of them counts as that
abbrev pub raised : List ℕ → ℕ → ℕ
raised starts now = max now (greatest starts)

-- how many starts lie less than 60,000 before a moment
abbrev pub window : List ℕ → ℕ → ℕ
window starts now = count_by (λ start. nat_lt (raised starts now - start) 60000) starts

-- the starts with one at this moment, if it was allowed
abbrev pub with_start : Bool → List ℕ → ℕ → List ℕ
with_start true starts now = starts ++ raised starts now ∷ []
with_start false starts now = starts

-- each start and the fifth behind it lie 60,000 or more apart: so there are at most five in any span
abbrev pub AreSpaced : List ℕ → Type 0
AreSpaced starts = (i : ℕ) → i + 5 < length starts → slice_index starts i + 60000 ≤ slice_index starts (i + 5)

-- what is kept of all starts that were recorded, and what holds of these
pub record Remembers (starts kept : List ℕ) : Type 0 where
  pub last_five : kept ≡ drop (length starts - 5) starts
  pub rising : IsNonDecreasing starts
  pub spaced : AreSpaced starts
