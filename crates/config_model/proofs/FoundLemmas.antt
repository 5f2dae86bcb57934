-- The first that is found in lists, one list further.
use Rattle.std.proofs.Common.{ℕ, suc, ◌≡◌, ◌+◌, ◌<◌, Bool, true, false, List, ◌∷◌, length, get_or, drop}
use Rattle.std.proofs.Common.{Option, Some, None, sym, ap, ◌∙◌, add-one, drop-cons}
use Rattle.std.specs.Prelude.{find, is_some}
use Rattle.std.specs.Borrow.{Bor}
use Rattle.std.specs.List.{flat_map}
use Rattle.std.specs.Option.{option_copied, option_or}
use Rattle.std.proofs.lemmas.List.Folds.{find-append}

-- what is found from the i-th list on is found in it, or behind it
pub found_next : {X Y : Type 0} (test : Y → Bool) (inner : X → List Y) (xs : List X) (i : ℕ) (x : X)
    → i < length xs → x ≡ get_or xs i x
    → find test (flat_map inner (drop i xs))
    ≡ option_or (find test (inner x)) (find test (flat_map inner (drop (i + 1) xs)))
found_next test inner xs i x within is =
    let here = drop-cons xs i x within ∙ ap (λ y. y ∷ drop (suc i) xs) (sym is) in
    ap (λ l. find test (flat_map inner l)) here
    ∙ find-append test (inner x) (flat_map inner (drop (suc i) xs))
    ∙ ap (λ j. option_or (find test (inner x)) (find test (flat_map inner (drop j xs)))) (sym (add-one i))

-- where something is found in the i-th list, it is what is found in all of them
pub found_here : {X Y : Type 0} (test : Y → Bool) (inner : X → List Y) (xs : List X) (i : ℕ) (x : X)
    (found : Option (Bor Y)) → find test (flat_map inner xs) ≡ find test (flat_map inner (drop i xs))
    → i < length xs → x ≡ get_or xs i x → option_copied found ≡ find test (inner x) → is_some found ≡ true
    → option_copied found ≡ find test (flat_map inner xs)
found_here test inner xs i x (Some y) before within is tells some =
    let behind = find test (flat_map inner (drop (i + 1) xs)) in
    sym (before ∙ found_next test inner xs i x within is ∙ ap (λ o. option_or o behind) (sym tells))
found_here test inner xs i x None before within is tells some = absurd (cc)

-- where nothing is, it stands behind it
pub found_behind : {X Y : Type 0} (test : Y → Bool) (inner : X → List Y) (xs : List X) (i : ℕ) (x : X)
    (found : Option (Bor Y)) → find test (flat_map inner xs) ≡ find test (flat_map inner (drop i xs))
    → i < length xs → x ≡ get_or xs i x → option_copied found ≡ find test (inner x) → is_some found ≡ false
    → find test (flat_map inner xs) ≡ find test (flat_map inner (drop (i + 1) xs))
found_behind test inner xs i x (Some y) before within is tells none = absurd (cc)
found_behind test inner xs i x None before within is tells none =
    let behind = find test (flat_map inner (drop (i + 1) xs)) in
    before ∙ found_next test inner xs i x within is ∙ ap (λ o. option_or o behind) (sym tells)
