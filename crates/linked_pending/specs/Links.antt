-- Tables of links, which give for each place the one behind it or the one before it.
use Rattle.std.specs.Prelude.{◌≡◌, ℕ, zero, suc, ◌<◌, List, [], ◌∷◌, length, slice_index, slice_set}

-- where the link of a place leads
abbrev pub link : List ℕ → ℕ → ℕ
link table place = slice_index table place

-- so many places, each the one that the link of the last leads to
abbrev pub walk : ℕ → (ℕ → ℕ) → ℕ → List ℕ
walk zero next start = []
walk (suc count) next start = next start ∷ walk count next (next start)

-- the links lead from the start through the list to the end
abbrev pub Leads : (ℕ → ℕ) → ℕ → List ℕ → ℕ → Type 0
Leads next start [] end = next start ≡ end
Leads next start (first ∷ rest) end = (next start ≡ first) × Leads next first rest end

-- the links both ways: each place has one place before it and one behind it
pub record AreInverse (next prev : List ℕ) : Type 0 where
  pub same_length : length prev ≡ length next
  pub next_in : (place : ℕ) → place < length next → link next place < length next
  pub prev_in : (place : ℕ) → place < length next → link prev place < length next
  pub back : (place : ℕ) → place < length next → link prev (link next place) ≡ place
  pub forth : (place : ℕ) → place < length next → link next (link prev place) ≡ place

-- the links with what stands behind two places exchanged
abbrev pub crossed : ℕ → ℕ → List ℕ → List ℕ
crossed place other next = slice_set (slice_set next place (link next other)) other (link next place)
