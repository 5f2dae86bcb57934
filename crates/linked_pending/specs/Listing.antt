-- Lists of numbers, each at most once: nodes, and the places at which a table keeps them.
use Rattle.std.specs.Prelude.{◌≡◌, ℕ, Bool, false, List, [], ◌∷◌, ◌==◌, nat_eq, if◌then◌else◌, Option, None, slice_get}
use Rattle.std.specs.Prelude.{⊤}
use Rattle.std.specs.List.{list_any}

-- how many numbers there is room for, all those below it, and which of them are in the list
pub record Listing : Type 0 where
  pub room : ℕ
  pub items : List ℕ

-- whether a number is in the list
abbrev pub has : ℕ → List ℕ → Bool
has item items = list_any (nat_eq item) items

-- no number stands twice
abbrev pub AreApart : List ℕ → Type 0
AreApart [] = ⊤
AreApart (first ∷ rest) = (has first rest ≡ false) × AreApart rest

-- the list without a number
abbrev pub without : ℕ → List ℕ → List ℕ
without item [] = []
without item (first ∷ rest) = if item == first then without item rest else first ∷ without item rest

-- the list with a number before the spot, or at its end where the spot isn't in it
abbrev pub put_before : ℕ → ℕ → List ℕ → List ℕ
put_before spot item [] = item ∷ []
put_before spot item (first ∷ rest) =
    if spot == first then item ∷ first ∷ rest else first ∷ put_before spot item rest

-- the first number, or a stand-in where there is none
abbrev pub first_or : ℕ → List ℕ → ℕ
first_or none [] = none
first_or none (first ∷ rest) = first

-- the number behind another, or a stand-in behind the last
abbrev pub behind_or : ℕ → ℕ → List ℕ → ℕ
behind_or none item [] = none
behind_or none item (first ∷ rest) = if item == first then first_or none rest else behind_or none item rest

-- the number before another in a list that the start stands before
abbrev pub before_from : ℕ → ℕ → List ℕ → ℕ
before_from start item [] = start
before_from start item (first ∷ rest) = if item == first then start else before_from first item rest

-- the number behind another, if one stands there
abbrev pub next_in : ℕ → List ℕ → Option ℕ
next_in item [] = None
next_in item (first ∷ rest) = if item == first then slice_get rest 0 else next_in item rest
