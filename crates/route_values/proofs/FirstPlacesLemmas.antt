-- First places grow at the end: a further value is kept exactly where none equals it so far.
use Rattle.std.proofs.Common.{ℕ, ◌≡◌, ◌+◌, ◌<◌, ◌||◌, take, get_or, length, Bool, true, false, not, cond, List, [], ◌∷◌}
use Rattle.std.proofs.Common.{◌++◌, ap, sym, ◌∙◌, refl, filter}
use Rattle.std.specs.Cmp.{IsPartialEquivalence}
use Rattle.std.specs.List.{list_any}
use Rattle.std.proofs.lemmas.List.{append-nil, take_more}
use Rattle.std.proofs.lemmas.List.Elements.{filter-append}
use Rattle.route_values.specs.Sent.{first_places}

-- whether a list has a value that equals y
abbrev pub has_same : {X : Type 0} → (X → X → Bool) → List X → X → Bool
has_same same xs y = list_any (λ k. same k y) xs

-- a list with y at its end, unless it had it
abbrev pub put : {X : Type 0} → Bool → List X → X → List X
put had xs y = cond had xs (xs ++ y ∷ [])

-- a list with one more value, where it has none that equals it
abbrev pub with_new : {X : Type 0} → (X → X → Bool) → List X → X → List X
with_new same xs y = put (has_same same xs y) xs y

-- the values that don't equal x
abbrev pub others : {X : Type 0} → (X → X → Bool) → X → List X → List X
others same x xs = filter (λ y. not (same x y)) xs

-- one value more: where it equals x it doesn't equal y
others_same_one : {X : Type 0} (same : X → X → Bool) → IsPartialEquivalence same
    → (x y k : X) (rest : List X) → same x y ≡ false → (near : Bool) → same x k ≡ near → (far : Bool) → same k y ≡ far
    → has_same same (others same x rest) y ≡ has_same same rest y
    → has_same same (others same x (k ∷ rest)) y ≡ has_same same (k ∷ rest) y
others_same_one same laws x y k rest apart true near true far tail =
    absurd (let both = laws.trans x k y near far in cc)
others_same_one same laws x y k rest apart true near false far tail =
    ap (λ b. has_same same (cond (not b) (k ∷ others same x rest) (others same x rest)) y) near
    ∙ tail
    ∙ sym (ap (λ b. b || has_same same rest y) far)
others_same_one same laws x y k rest apart false near far is tail =
    ap (λ b. has_same same (cond (not b) (k ∷ others same x rest) (others same x rest)) y) near
    ∙ ap (λ b. same k y || b) tail

-- leaving out what equals x leaves what equals y, where x and y aren't equal
others_same : {X : Type 0} (same : X → X → Bool) → IsPartialEquivalence same → (x y : X) → same x y ≡ false
    → (xs : List X) → has_same same (others same x xs) y ≡ has_same same xs y
others_same same laws x y apart [] = refl
others_same same laws x y apart (k ∷ ks) =
    others_same_one same laws x y k ks apart (same x k) refl (same k y) refl (others_same same laws x y apart ks)

-- leaving out what equals x, of a list with y at its end
others_end : {X : Type 0} (same : X → X → Bool) (x y : X) (kept : List X) (near : Bool) → same x y ≡ near
    → others same x (kept ++ y ∷ []) ≡ others same x kept ++ cond (not near) (y ∷ []) []
others_end same x y kept near is =
    filter-append (λ z. not (same x z)) kept (y ∷ [])
    ∙ ap (λ b. others same x kept ++ cond (not b) (y ∷ []) []) is

-- x and the others with y put behind them, by whether y equals x
put_behind : {X : Type 0} (same : X → X → Bool) (x y : X) (kept : List X) (near : Bool) → same x y ≡ near
    → with_new same (x ∷ others same x kept) y
    ≡ put (near || has_same same (others same x kept) y) (x ∷ others same x kept) y
put_behind same x y kept near is =
    ap (λ b. put (b || has_same same (others same x kept) y) (x ∷ others same x kept) y) is

-- the others of a list to which y is put, where y doesn't equal x
with_new_apart : {X : Type 0} (same : X → X → Bool) (x y : X) (kept : List X) → same x y ≡ false → (had : Bool)
    → x ∷ others same x (put had kept y) ≡ put had (x ∷ others same x kept) y
with_new_apart same x y kept near true = refl
with_new_apart same x y kept near false = ap (λ t. x ∷ t) (others_end same x y kept false near)

-- the step of the induction, by whether x equals y and whether the rest has a value that does
with_new_step : {X : Type 0} (same : X → X → Bool) → IsPartialEquivalence same
    → (x y : X) (kept : List X) (near : Bool) → same x y ≡ near → (had : Bool) → has_same same kept y ≡ had
    → x ∷ others same x (put had kept y) ≡ with_new same (x ∷ others same x kept) y
with_new_step same laws x y kept true near true had = sym (put_behind same x y kept true near)
with_new_step same laws x y kept true near false had =
    ap (λ t. x ∷ t) (others_end same x y kept true near ∙ append-nil (others same x kept))
    ∙ sym (put_behind same x y kept true near)
with_new_step same laws x y kept false near had is =
    let apart = others_same same laws x y near kept ∙ is in
    with_new_apart same x y kept near had
    ∙ sym (put_behind same x y kept false near ∙ ap (λ b. put b (x ∷ others same x kept) y) apart)

-- the values kept, of a list with one more
pub first_places-push : {X : Type 0} (same : X → X → Bool) → IsPartialEquivalence same → (xs : List X) (y : X)
    → first_places same (xs ++ y ∷ []) ≡ with_new same (first_places same xs) y
first_places-push same laws [] y = refl
first_places-push same laws (x ∷ xs) y =
    ap (λ t. x ∷ others same x t) (first_places-push same laws xs y)
    ∙ with_new_step same laws x y (first_places same xs) (same x y) refl (has_same same (first_places same xs) y) refl

-- what a list is after a value was put to it, and where it was left out
pub put_new : {X : Type 0} (kept pushed later : List X) (item : X) (had : Bool)
    → later ≡ pushed → pushed ≡ kept ++ item ∷ [] → had ≡ false → later ≡ put had kept item
put_new kept pushed later item had is new apart = is ∙ new ∙ sym (ap (λ b. put b kept item) apart)

pub put_old : {X : Type 0} (kept later : List X) (item : X) (had : Bool)
    → later ≡ kept → had ≡ true → later ≡ put had kept item
put_old kept later item had is near = is ∙ sym (ap (λ b. put b kept item) near)

-- the values kept of the first i + 1 are those kept of the first i, with the next where it is new
pub first_places-take : {X : Type 0} (same : X → X → Bool) → IsPartialEquivalence same
    → (items : List X) (i : ℕ) (item : X) (kept seen later : List X) (had : Bool)
    → i < length items → item ≡ get_or items i item → kept ≡ first_places same (take i items)
    → had ≡ has_same same seen item → seen ≡ kept → later ≡ put had kept item
    → later ≡ first_places same (take (i + 1) items)
first_places-take same laws items i item kept seen later had within is before test whole after =
    let more = take_more items i item within ∙ ap (λ x. take i items ++ x ∷ []) (sym is) in
    after ∙ ap (λ b. put b kept item) (test ∙ ap (λ k. has_same same k item) whole)
    ∙ ap (λ k. with_new same k item) before
    ∙ sym (ap (first_places same) more ∙ first_places-push same laws (take i items) item)
