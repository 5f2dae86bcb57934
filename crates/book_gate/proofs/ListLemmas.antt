-- Elements, prefixes and sums of lists.
use Rattle.std.proofs.Common.{◌≡◌, ◌≢◌, ◌⊎◌, ℕ, zero, suc, ◌+◌, ◌<◌, ◌≤◌, List, [], ◌∷◌, ◌++◌, map, length, set, refl}
use Rattle.std.proofs.Common.{sym, ap, subst, ◌∙◌, inl, inr, ⊎_elim, arith, append_assoc, length-append, sum_by}
use Rattle.std.specs.Prelude.{All, Contains, slice_index_or}
use Rattle.std.proofs.lemmas.List.{map-append}
use Rattle.std.proofs.lemmas.List.Elements.{Contains-append_left, Contains-append_right, Contains-append_cases}
use Rattle.std.proofs.lemmas.List.Sums.{sum_by-cons}
use mathlib.Core.Option.{some, some-injective, some-ne-none}
use mathlib.Core.List.{IsPrefix}
use lib.ListN.{get_elem?}
use Rattle.atomic_table.proofs.Lists.{at_set}

module _ {X : Type 0} where
  pub no_items : (xs : List X) → length xs ≡ 0 → xs ≡ []
  no_items [] none = refl
  no_items (x ∷ xs) none = absurd (omega arith)

  pub prefix_self : (xs : List X) → IsPrefix xs xs
  prefix_self [] = ([], refl)
  prefix_self (x ∷ xs) = (let rest = prefix_self xs in rest.0, ap (λ ys. x ∷ ys) (prefix_self xs).1)

  pub prefix_trans : (xs ys zs : List X) → IsPrefix xs ys → IsPrefix ys zs → IsPrefix xs zs
  prefix_trans xs ys zs first second = (
    first.0 ++ second.0,
    sym (append_assoc xs first.0 second.0)
        ∙ (ap (λ front. front ++ second.0) first.1 ∙ second.1),
  )

  pub prefix_more : (xs ys zs : List X) → IsPrefix xs ys → IsPrefix xs (ys ++ zs)
  prefix_more xs ys zs front = prefix_trans xs ys (ys ++ zs) front (zs, refl)

  pub prefix_push : (before list : List X) (x last : X) → IsPrefix (before ++ x ∷ []) (list ++ last ∷ [])
      → IsPrefix (before ++ x ∷ []) list ⊎ ((before ≡ list) × (x ≡ last))
  prefix_push [] [] x last front = inr (refl, cc (front.1))
  prefix_push [] (y ∷ list) x last front = inl (list, cc (front.1))
  prefix_push (it ∷ before) [] x last front =
      let none : (before ++ x ∷ []) ++ front.0 ≡ [] = cc (front.1) in
      absurd (omega (arith, ap length none, length-append (before ++ x ∷ []) front.0, length-append before (x ∷ [])))
  prefix_push (it ∷ before) (y ∷ list) x last front =
      let heads : it ≡ y = cc (front.1) in
      ⊎_elim (λ (old : IsPrefix (before ++ x ∷ []) list). inl (old.0, cc (heads, old.1)))
      (λ (new : (before ≡ list) × (x ≡ last)). inr (cc (heads, new.0), new.1))
      (prefix_push before list x last (front.0, cc (front.1)))

  pub prefix_map : {Y : Type 0} (f : X → Y) (xs ys : List X) → IsPrefix xs ys → IsPrefix (map f xs) (map f ys)
  prefix_map f xs ys front = (map f front.0, sym (map-append f xs front.0) ∙ ap (map f) front.1)

  pub prefix_none : (xs ys : List X) → IsPrefix xs ys → ys ≡ [] → xs ≡ []
  prefix_none xs ys front none = no_items xs (omega (
    arith,
    length-append xs front.0,
    ap length front.1,
    ap length none,
  ))

  pub prefix_length : (xs ys : List X) → IsPrefix xs ys → length xs ≤ length ys
  prefix_length xs ys front = omega (arith, sym (ap length front.1) ∙ length-append xs front.0)

  -- Of two prefixes of one list the shorter is a prefix of the longer
  pub prefix_shorter : (xs ys zs : List X) → IsPrefix xs zs → IsPrefix ys zs → length xs ≤ length ys → IsPrefix xs ys
  prefix_shorter [] ys zs first second below = (ys, refl)
  prefix_shorter (x ∷ xs) [] zs first second below = absurd (omega arith)
  prefix_shorter (x ∷ xs) (y ∷ ys) [] first second below = absurd (cc (first.1))
  prefix_shorter (x ∷ xs) (y ∷ ys) (it ∷ zs) first second below =
      let heads : x ≡ y = cc (first.1, second.1) in
      let rest = prefix_shorter xs ys zs (first.0, cc (first.1)) (second.0, cc (second.1)) (omega arith) in
      (rest.0, cc (heads, rest.1))

  -- A prefix that is no shorter is the whole
  pub prefix_whole : (xs ys : List X) → IsPrefix xs ys → length ys ≤ length xs → xs ≡ ys
  prefix_whole [] [] front below = refl
  prefix_whole [] (y ∷ ys) front below = absurd (omega arith)
  prefix_whole (x ∷ xs) [] front below = absurd (cc (front.1))
  prefix_whole (x ∷ xs) (y ∷ ys) front below =
      let rest = prefix_whole xs ys (front.0, cc (front.1)) (omega arith) in
      cc (front.1, rest)

  pub contains_none : (x : X) → Contains [] x → ⊥
  contains_none x has = let below = has.1 in omega arith

  pub contains_one : (x y : X) → Contains (x ∷ []) y → x ≡ y
  contains_one x y has = first has.0 (let below = has.1 in omega arith) has.2
    where
      first : (k : ℕ) → k ≡ 0 → slice_index_or (x ∷ []) k y ≡ y → x ≡ y
      first zero at is = is
      first (suc k) at is = absurd (omega arith)

  pub contains_here : (x : X) (xs : List X) → Contains (x ∷ xs) x
  contains_here x xs = (0, omega arith, refl)

  pub contains_last : (xs : List X) (x : X) → Contains (xs ++ x ∷ []) x
  contains_last xs x = Contains-append_right xs (x ∷ []) x (contains_here x [])

  pub contains_there : (x : X) (xs : List X) (y : X) → Contains xs y → Contains (x ∷ xs) y
  contains_there x xs y has = Contains-append_right (x ∷ []) xs y has

  pub contains_cases : (x : X) (xs : List X) (y : X) → Contains (x ∷ xs) y → (x ≡ y) ⊎ Contains xs y
  contains_cases x xs y has = ⊎_elim (λ (first : Contains (x ∷ []) y). inl (contains_one x y first))
      (λ (rest : Contains xs y). inr rest) (Contains-append_cases (x ∷ []) xs y has)

  pub contains_prefix : (xs ys : List X) (x : X) → IsPrefix xs ys → Contains xs x → Contains ys x
  contains_prefix xs ys x front has = subst (λ list. Contains list x) front.1 (Contains-append_left xs front.0 x has)

  pub all_contained : (xs ys : List X) → All (Contains ys) xs → (x : X) → Contains xs x → Contains ys x
  all_contained xs ys all x has = subst (Contains ys) has.2 (all has.0 x has.1)

  pub contains_at : (xs : List X) (k : ℕ) (fallback : X) → k < length xs → Contains xs (slice_index_or xs k fallback)
  contains_at [] k fallback below = absurd (omega arith)
  contains_at (x ∷ xs) zero fallback below = contains_here x xs
  contains_at (x ∷ xs) (suc k) fallback below = contains_there x xs (slice_index_or xs k fallback)
      (contains_at xs k fallback (omega arith))

  -- What all elements of the second have, those of the first have
  pub all_fewer : (P : X → Type 0) (xs ys : List X) → ((x : X) → Contains xs x → Contains ys x) → All P ys → All P xs
  all_fewer P xs ys among all k fallback below = let has = among (slice_index_or xs k fallback)
      (contains_at xs k fallback below) in subst P has.2 (all has.0 (slice_index_or xs k fallback) has.1)

  pub sum_set : (f : X → ℕ) (xs : List X) (i : ℕ) (x y : X) → get_elem? xs i ≡ some x
      → sum_by f (set xs i y) + f x ≡ sum_by f xs + f y
  sum_set f [] i x y at = absurd (some-ne-none x (sym at))
  sum_set f (it ∷ zs) zero x y at = omega (
    arith,
    ap f (some-injective it x at),
    sum_by-cons f it zs,
    sum_by-cons f y zs,
  )
  sum_set f (it ∷ zs) (suc i) x y at = omega (
    arith,
    sum_set f zs i x y at,
    sum_by-cons f it zs,
    sum_by-cons f it (set zs i y),
  )

  pub sum_below : (f g : X → ℕ) (xs : List X) → ((i : ℕ) (x : X) → get_elem? xs i ≡ some x → f x ≤ g x)
      → sum_by f xs ≤ sum_by g xs
  sum_below f g [] each = omega arith
  sum_below f g (x ∷ xs) each = omega (
    arith,
    each 0 x refl,
    sum_below f g xs (λ i y at. each (suc i) y at),
    sum_by-cons f x xs,
    sum_by-cons g x xs,
  )

  pub one_of_sum : (f : X → ℕ) (xs : List X) (i : ℕ) (x : X) → get_elem? xs i ≡ some x → f x ≤ sum_by f xs
  one_of_sum f [] i x at = absurd (some-ne-none x (sym at))
  one_of_sum f (y ∷ ys) zero x at = omega (arith, ap f (some-injective y x at), sum_by-cons f y ys)
  one_of_sum f (y ∷ ys) (suc i) x at = omega (arith, one_of_sum f ys i x at, sum_by-cons f y ys)

  -- What stands at a place is one
  pub same_at : (xs : List X) (i j : ℕ) (x y : X) → get_elem? xs i ≡ some y → get_elem? xs j ≡ some x → i ≡ j → x ≡ y
  same_at xs i j x y at there same = some-injective x y (sym there ∙ ap (get_elem? xs) (sym same) ∙ at)

  pub at_below : (xs : List X) (i : ℕ) (x : X) → get_elem? xs i ≡ some x → i < length xs
  at_below [] i x at = absurd (some-ne-none x (sym at))
  at_below (y ∷ ys) zero x at = omega arith
  at_below (y ∷ ys) (suc i) x at = let below = at_below ys i x at in omega arith

  -- What holds of the new element and of the others holds of all
  pub each_set : (P : ℕ → X → Type 0) (xs : List X) (me : ℕ) (new : X) → P me new
      → ((j : ℕ) (x : X) → j ≢ me → get_elem? xs j ≡ some x → P j x) → (j : ℕ) (x : X)
      → get_elem? (set xs me new) j ≡ some x → P j x
  each_set P xs me new mine others j x at =
      ⊎_elim (λ (here : (j ≡ me) × (new ≡ x)). subst (λ (it : ℕ × X). P it.0 it.1) (λ i. (sym here.0 i, here.1 i)) mine)
      (λ (else : (j ≢ me) × (get_elem? xs j ≡ some x)). others j x else.0 else.1) (at_set xs me j new x at)

  -- An element of a longer list is an old one or the last
  pub at_end : (xs : List X) (last x : X) (j : ℕ) → get_elem? (xs ++ last ∷ []) j ≡ some x
      → (get_elem? xs j ≡ some x) ⊎ ((j ≡ length xs) × (last ≡ x))
  at_end [] last x zero at = inr (refl, some-injective last x at)
  at_end [] last x (suc j) at = absurd (some-ne-none x (sym at))
  at_end (y ∷ ys) last x zero at = inl at
  at_end (y ∷ ys) last x (suc j) at = ⊎_elim inl (λ (new : (j ≡ length ys) × (last ≡ x)).
      inr ((let index : j ≡ length ys = new.0 in omega arith), new.1)) (at_end ys last x j at)

  pub each_end : (P : ℕ → X → Type 0) (xs : List X) (last : X) → P (length xs) last
      → ((j : ℕ) (x : X) → get_elem? xs j ≡ some x → P j x) → (j : ℕ) (x : X) → get_elem? (xs ++ last ∷ []) j ≡ some x
      → P j x
  each_end P xs last mine others j x at =
      ⊎_elim (λ old. others j x old) (λ (new : (j ≡ length xs) × (last ≡ x)).
      subst (λ (it : ℕ × X). P it.0 it.1) (λ i. (sym new.0 i, new.1 i)) mine) (at_end xs last x j at)

  -- What holds of the new element with itself and with each other, and of the others, holds of all pairs
  pub pairs_set : (R : ℕ → ℕ → X → X → Type 0) (xs : List X) (me : ℕ) (new : X) → R me me new new
      → ((j : ℕ) (x : X) → j ≢ me → get_elem? xs j ≡ some x → R me j new x × R j me x new)
      → ((i j : ℕ) (x y : X) → i ≢ me → j ≢ me → get_elem? xs i ≡ some x → get_elem? xs j ≡ some y → R i j x y)
      → (i j : ℕ) (x y : X) → get_elem? (set xs me new) i ≡ some x → get_elem? (set xs me new) j ≡ some y → R i j x y
  pairs_set R xs me new own mixed others i j x y at there =
      each_set (λ (i : ℕ) (x : X). R i j x y) xs me new (each_set (λ (j : ℕ) (y : X). R me j new y) xs me new own
      (λ j x else here. (mixed j x else here).0) j y there)
      (λ i x else here. each_set (λ (j : ℕ) (y : X). R i j x y) xs me new (mixed i x else here).1
      (λ j y else' here'. others i j x y else else' here here') j y there)
      i x at

  pub pairs_end : (R : ℕ → ℕ → X → X → Type 0) (xs : List X) (last : X) → R (length xs) (length xs) last last
      → ((j : ℕ) (x : X) → get_elem? xs j ≡ some x → R (length xs) j last x × R j (length xs) x last)
      → ((i j : ℕ) (x y : X) → get_elem? xs i ≡ some x → get_elem? xs j ≡ some y → R i j x y) → (i j : ℕ) (x y : X)
      → get_elem? (xs ++ last ∷ []) i ≡ some x → get_elem? (xs ++ last ∷ []) j ≡ some y → R i j x y
  pairs_end R xs last own mixed others i j x y at there =
      each_end (λ (i : ℕ) (x : X). R i j x y) xs last (each_end (λ (j : ℕ) (y : X). R (length xs) j last y) xs last own
      (λ j x here. (mixed j x here).0) j y there)
      (λ i x here. each_end (λ (j : ℕ) (y : X). R i j x y) xs last (mixed i x here).1
      (λ j y here'. others i j x y here here') j y there)
      i x at

module _ {X : Type 0} where
  first_or : X → List (ℕ × X) → X
  first_or fallback [] = fallback
  first_or fallback (x ∷ xs) = x.1

  pub same_first : (all xs ys : List (ℕ × X)) (slot : ℕ) (x y : X) → all ≡ (slot, x) ∷ xs → all ≡ (slot, y) ∷ ys → x ≡ y
  unfolding first_or
  same_first all xs ys slot x y first second = ap (first_or x) (sym first ∙ second)
