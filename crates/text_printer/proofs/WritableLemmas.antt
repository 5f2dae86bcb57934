-- What holds of the first items holds of all of them.
use Rattle.std.proofs.Common.{ℕ, ◌+◌, ◌<◌, ◌≤◌, All, List, length, get_or, take, sym, subst}
use Rattle.std.specs.List.{AllByRecursion}
use Rattle.std.proofs.lemmas.List.{take_all, take_more}
use Rattle.std.proofs.lemmas.List.Elements.{All-push, recursion_from_All}

-- of one item more
pub all_more : {A : Type 0} (P : A → Type 0) (items : List A) (i : ℕ) (other : A) → i < length items
    → All P (take i items) → P (get_or items i other) → All P (take (i + 1) items)
all_more P items i other within all one =
    subst (λ some. All P some) (sym (take_more items i other within))
    (All-push P (take i items) (get_or items i other) all one)

-- of all
pub all_taken : {A : Type 0} (P : A → Type 0) (items : List A) (i : ℕ) → length items ≤ i → All P (take i items)
    → AllByRecursion P items
all_taken P items i past all =
    recursion_from_All P items (subst (λ some. All P some) (take_all i items past) all)
