-- Into which slots new sections go.
use Rattle.std.specs.Prelude.{ℕ, zero, suc, ◌+◌, ◌-◌, Bool, true, false, List, [], ◌∷◌, if◌then◌else◌, Option}
use Rattle.std.specs.Prelude.{is_some, slice_get}
use Rattle.std.specs.Option.{option_or}
use Rattle.book_history.specs.Slots.{slot}

-- so many vacant slots, and one more where this one is vacant
abbrev pub and_vacant : {A : Type 0} → Option A → ℕ → ℕ
and_vacant held many = if is_some held then many else many + 1

-- how many slots below a place are vacant
abbrev pub vacant_below : {A : Type 0} → List (Option A) → ℕ → ℕ
vacant_below slots zero = 0
vacant_below slots (suc n) = and_vacant (slot slots n) (vacant_below slots n)

-- the numbers of those that are marked, where the first is counted as this number
abbrev pub marked_from : ℕ → List Bool → List ℕ
marked_from first [] = []
marked_from first (true ∷ marks) = first ∷ marked_from (suc first) marks
marked_from first (false ∷ marks) = marked_from (suc first) marks

-- The number of the section in a slot behind a reload, by the numbers of those that stay in their slots, and by which
-- sections are new: new ones go into the lowest vacant slots, in order.
abbrev pub number_placed : List (Option ℕ) → List Bool → ℕ → Option ℕ
number_placed kept news n = option_or (slot kept n) (slice_get (marked_from 0 news) (vacant_below kept n))

-- how many marked ones are to be passed behind one that is marked or not
abbrev pub left_behind : Bool → ℕ → ℕ
left_behind mark left = if mark then left - 1 else left
