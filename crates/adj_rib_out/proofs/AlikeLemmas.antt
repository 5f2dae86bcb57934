-- Places at which the same stands are counted and summed alike, also where one list of them is longer.
use Rattle.std.proofs.Common.{◌≡◌, ℕ, ◌+◌, Bool, List, [], ◌∷◌, Option, Some, None, zero, suc}
use Rattle.std.proofs.Common.{get_or, refl, sym, ap, ap₂, subst, ◌∙◌, arith}
use Rattle.std.specs.Prelude.{is_some, ◌&&◌}
use Rattle.std.specs.List.{sum_by}
use Rattle.std.proofs.lemmas.List.Sums.{sum_by-cons}
use Rattle.route_values.specs.declared.key.Key.{Key}
use Rattle.adj_rib_out.specs.Places.{key_at}
use Rattle.adj_rib_out.proofs.NodeLemmas.{count_places, one}

-- whether a key stands at a place that passes a test
abbrev counts : (ℕ → Bool) → List (Option Key) → ℕ → ℕ → Bool
counts test keys first i = is_some (key_at keys i) && test (first + i)

count_first : (test : ℕ → Bool) (k : Option Key) (keys : List (Option Key)) (first : ℕ)
    → count_places test (k ∷ keys) first ≡ one (is_some k && test first) + count_places test keys (first + 1)
count_first test None keys first = omega arith
count_first test (Some k) keys first = refl

-- a vacant place behind all others counts for nothing
padded : (test : ℕ → Bool) (first i : ℕ) → counts test (None ∷ []) first i ≡ counts test [] first i
padded test first zero = refl
padded test first (suc i) = refl

module _ (f g : ℕ → Bool) where
  abbrev AreAlike : List (Option Key) → List (Option Key) → ℕ → Type 0
  AreAlike xs ys first = (i : ℕ) → counts f xs first i ≡ counts g ys first i

  behind : (k l : Option Key) (xs ys : List (Option Key)) (first : ℕ) → AreAlike (k ∷ xs) (l ∷ ys) first
      → AreAlike xs ys (first + 1)
  behind k l xs ys first same i = subst (λ (n : ℕ). (is_some (key_at xs i) && f n) ≡ (is_some (key_at ys i) && g n))
      (omega arith) (same (suc i))

  at_first : (k l : Option Key) (xs ys : List (Option Key)) (first : ℕ) → AreAlike (k ∷ xs) (l ∷ ys) first
      → (is_some k && f first) ≡ (is_some l && g first)
  at_first k l xs ys first same = subst (λ (n : ℕ). (is_some k && f n) ≡ (is_some l && g n)) (omega arith) (same 0)

  from_first : (k l : Option Key) (xs ys : List (Option Key)) (first : ℕ) → AreAlike (k ∷ xs) (l ∷ ys) first
      → count_places f xs (first + 1) ≡ count_places g ys (first + 1)
      → count_places f (k ∷ xs) first ≡ count_places g (l ∷ ys) first
  from_first k l xs ys first same rest = count_first f k xs first
      ∙ ap₂ (λ (a b : ℕ). a + b) (ap one (at_first k l xs ys first same)) rest ∙ sym (count_first g l ys first)

  pub count_alike : (xs ys : List (Option Key)) (first : ℕ)
      → ((i : ℕ) → counts f xs first i ≡ counts g ys first i)
      → count_places f xs first ≡ count_places g ys first
  count_alike [] [] first same = refl
  count_alike [] (l ∷ ys) first same =
      let long : AreAlike (None ∷ []) (l ∷ ys) first = λ i. padded f first i ∙ same i in
      from_first None l [] ys first long (count_alike [] ys (first + 1) (behind None l [] ys first long))
  count_alike (k ∷ xs) [] first same =
      let long : AreAlike (k ∷ xs) (None ∷ []) first = λ i. same i ∙ sym (padded g first i) in
      from_first k None xs [] first long (count_alike xs [] (first + 1) (behind k None xs [] first long))
  count_alike (k ∷ xs) (l ∷ ys) first same =
      from_first k l xs ys first same (count_alike xs ys (first + 1) (behind k l xs ys first same))

-- sums, where a list that ends goes on with what counts for nothing
module _ {X : Type 0} (f : X → ℕ) (blank : X) (nothing : f blank ≡ 0) where
  sum_blank : (ys : List X) → ((i : ℕ) → f (get_or ys i blank) ≡ 0) → sum_by f ys ≡ 0
  sum_blank [] none = refl
  sum_blank (y ∷ ys) none =
      let first = none 0 in
      let rest = sum_blank ys (λ i. none (suc i)) in
      let both = sum_by-cons f y ys in
      omega arith

  pub sum_alike : (xs ys : List X) → ((i : ℕ) → f (get_or ys i blank) ≡ f (get_or xs i blank))
      → sum_by f ys ≡ sum_by f xs
  sum_alike [] ys same = sum_blank ys (λ i. same i ∙ nothing)
  sum_alike (x ∷ xs) [] same = sym (sum_blank (x ∷ xs) (λ i. sym (same i) ∙ nothing))
  sum_alike (x ∷ xs) (y ∷ ys) same =
      let first = same 0 in
      let rest = sum_alike xs ys (λ i. same (suc i)) in
      let one = sum_by-cons f x xs in
      let other = sum_by-cons f y ys in
      omega arith
