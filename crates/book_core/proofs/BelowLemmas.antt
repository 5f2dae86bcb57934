-- A list whose first places have what is wanted of them.
use Rattle.std.proofs.Common.{◌≡◌, ℕ, ◌<◌, ◌≤◌, ◌+◌, Bool, true, false, List, length, Some, refl, sym, ap, ◌∙◌, arith}
use Rattle.std.proofs.Common.{eqb-true, inl, inr, ne_eqb, subst}
use Rattle.std.proofs.lemmas.Bool.{eqb-false}
use Rattle.std.proofs.lemmas.Option.{same_Some}
use Rattle.std.specs.Prelude.{◌⊎◌, ◌==◌, slice_get, slice_set, Option}
use Rattle.book_core.proofs.HelperLemmas.{get_set_other, get_set_put, get_set_same}

pub at_or_below : (m n : ℕ) → m < n + 1 → (m ≡ n) ⊎ (m < n)
at_or_below m n less = at_place (m == n) refl
  where
    at_place : (so : Bool) → (m == n) ≡ so → (m ≡ n) ⊎ (m < n)
    at_place true same = inl (eqb-true m n same)
    at_place false other = let apart = eqb-false m n other in inr (omega (arith, apart))

pub not_below : (m n : ℕ) → m < n → (n == m) ≡ false
not_below m n under = ne_eqb n m (λ same. absurd (omega (arith, same, under)))

pub not_above : (m n : ℕ) → n + 1 ≤ m → (n == m) ≡ false
not_above m n past = ne_eqb n m (λ same. absurd (omega (arith, same, past)))

module _ {A : Type 0} (want : ℕ → Option A) where
  abbrev pub AreBelow : ℕ → List A → Type 0
  AreBelow place xs = (n : ℕ) → n < place → slice_get xs n ≡ want n

  pub below_next : (xs : List A) (place : ℕ) (x : A) → place < length xs → Some x ≡ want place → AreBelow place xs
      → AreBelow (place + 1) (slice_set xs place x)
  below_next xs place x inside is below n under =
      elim (place == n) as (λ b. (place == n) ≡ b → slice_get (slice_set xs place x) n ≡ want n) [
        | true ↦ λ same.
            let one : place ≡ n = eqb-true place n same in
            subst (λ (k : ℕ). slice_get (slice_set xs place x) k ≡ want k) one (get_set_put xs place x inside ∙ is)
        | false ↦ λ other.
            let apart = eqb-false place n other in
            get_set_other xs place n x other ∙ below n (omega (arith, under, apart))
      ] refl

-- one place more of a list has changed as it should, behind those below it
pub changed_below : {A : Type 0} (changes : ℕ → A → A → Type 0) (start now : List A) (place : ℕ) (was new : A)
    → slice_get start place ≡ Some was → changes place was new
    → ((n : ℕ) (before after : A) → n < place → slice_get start n ≡ Some before → slice_get now n ≡ Some after
    → changes n before after)
    → (n : ℕ) (before after : A) → n < place + 1 → slice_get start n ≡ Some before
    → slice_get (slice_set now place new) n ≡ Some after → changes n before after
changed_below changes start now place was new found change below n before after less there here =
    elim (at_or_below n place less) [
      | inl same ↦
          let one : place ≡ n = sym same in
          let is_was : was ≡ before = same_Some _ _ (sym found ∙ ap (slice_get start) one ∙ there) in
          let is_new : new ≡ after =
          get_set_same now place new after (ap (slice_get (slice_set now place new)) one ∙ here) in
          subst (λ k. changes k before after) one
          (subst (λ p. changes place p after) is_was (subst (λ p. changes place was p) is_new change))
      | inr under ↦
          below n before after under there (sym (get_set_other now place n new (not_below n place under)) ∙ here)
    ]
