-- What stands at each place of a list that was changed at one place, and lists of slots with their items.
use Rattle.std.proofs.Common.{◌≡◌, ℕ, zero, suc, ◌+◌, ◌-◌, ◌<◌, Option, Some, None, cond}
use Rattle.std.proofs.Common.{List, [], ◌∷◌, ◌++◌, take, length, get_or, eqb, refl, sym, ap, ◌∙◌, inl, inr, arith}
use Rattle.std.proofs.lemmas.Grind.{common_steps}
use Rattle.std.proofs.lemmas.Bool.{cases_eq, eq-eqb, ne_eqb}
use Rattle.std.proofs.lemmas.List.{ext_get_or, length-set}
use Rattle.std.proofs.Math.ListN.{get_or-map, length-map}
use Rattle.std.specs.Prelude.{slice_get, slice_set}
use Rattle.std.specs.List.{swap_remove}
use Rattle.value_pool.specs.declared.slots.Slot.{Slot}
use Rattle.value_pool.specs.Pool.{item_at}
use Rattle.value_pool.specs.Slots.{slot_at, item_of, items_of}

-- a number above 0 isn't 0
later : {A : Type 0} (k : ℕ) (x y : A) → cond (eqb (suc k) 0) x y ≡ y
later k x y = ap (λ b. cond b x y) (ne_eqb (suc k) 0 (λ same. absurd (omega (arith, same))))

-- nor is 0 one
earlier : {A : Type 0} (k : ℕ) (x y : A) → cond (eqb 0 (suc k)) x y ≡ y
earlier k x y = ap (λ b. cond b x y) (ne_eqb 0 (suc k) (λ same. absurd (omega (arith, same))))

-- two numbers above 0 are one where those before them are
next : {A : Type 0} (k i : ℕ) (x y : A) → cond (eqb k i) x y ≡ cond (eqb (suc k) (suc i)) x y
next k i x y = ap (λ b. cond b x y) (elim (cases_eq k i) [
  | inl same ↦ eq-eqb k i same ∙ sym (eq-eqb (suc k) (suc i) (ap suc same))
  | inr differs ↦ ne_eqb k i differs ∙ sym (ne_eqb (suc k) (suc i) (λ same. differs (omega (arith, same))))
])

module _ {X : Type 0} where
  -- where nothing stands at a place any more
  pub at_set_none : (xs : List (Option X)) (i k : ℕ) → get_or (slice_set xs i None) k None
      ≡ cond (eqb k i) None (get_or xs k None)
  at_set_none [] i k = grind (arith, common_steps)
  at_set_none (x ∷ xs) zero zero = refl
  at_set_none (x ∷ xs) zero (suc k) = sym (later k None (get_or xs k None))
  at_set_none (x ∷ xs) (suc i) zero = sym (earlier i None x)
  at_set_none (x ∷ xs) (suc i) (suc k) = at_set_none xs i k ∙ next k i None (get_or xs k None)

  pub at_set : (xs : List (Option X)) (i k : ℕ) (y : Option X) → i < length xs
      → get_or (slice_set xs i y) k None ≡ cond (eqb k i) y (get_or xs k None)
  at_set [] i k y within = absurd (omega arith)
  at_set (x ∷ xs) zero zero y within = refl
  at_set (x ∷ xs) zero (suc k) y within = sym (later k y (get_or xs k None))
  at_set (x ∷ xs) (suc i) zero y within = sym (earlier i y x)
  at_set (x ∷ xs) (suc i) (suc k) y within = at_set xs i k y (omega arith) ∙ next k i y (get_or xs k None)

  pub at_push : (xs : List (Option X)) (k : ℕ) (y : Option X) → get_or (xs ++ y ∷ []) k None
      ≡ cond (eqb k (length xs)) y (get_or xs k None)
  at_push [] zero y = refl
  at_push [] (suc k) y = sym (later k y None)
  at_push (x ∷ xs) zero y = sym (earlier (length xs) y x)
  at_push (x ∷ xs) (suc k) y = at_push xs k y ∙ next k (length xs) y (get_or xs k None)

  pub within_some : (xs : List (Option X)) (i : ℕ) (x : X) → get_or xs i None ≡ Some x → i < length xs
  within_some [] i x is = absurd (grind (arith, common_steps, is))
  within_some (x ∷ xs) zero y is = omega arith
  within_some (x ∷ xs) (suc i) y is = let within = within_some xs i y is in omega arith

  pub same_options : (xs ys : List (Option X)) → length xs ≡ length ys
      → ((k : ℕ) → get_or xs k None ≡ get_or ys k None) → xs ≡ ys
  same_options xs ys lengths each = ext_get_or None xs ys lengths (λ k _. each k)

  pub get_push : (xs : List X) (k : ℕ) (y : X) → slice_get (xs ++ y ∷ []) k
      ≡ cond (eqb k (length xs)) (Some y) (slice_get xs k)
  get_push [] zero y = refl
  get_push [] (suc k) y = sym (later k (Some y) None)
  get_push (x ∷ xs) zero y = sym (earlier (length xs) (Some y) (Some x))
  get_push (x ∷ xs) (suc k) y = get_push xs k y ∙ next k (length xs) (Some y) (slice_get xs k)

  get_set : (xs : List X) (i k : ℕ) (y : X) → i < length xs
      → slice_get (slice_set xs i y) k ≡ cond (eqb k i) (Some y) (slice_get xs k)
  get_set [] i k y within = absurd (omega arith)
  get_set (x ∷ xs) zero zero y within = refl
  get_set (x ∷ xs) zero (suc k) y within = sym (later k (Some y) (slice_get xs k))
  get_set (x ∷ xs) (suc i) zero y within = sym (earlier i (Some y) (Some x))
  get_set (x ∷ xs) (suc i) (suc k) y within = get_set xs i k y (omega arith) ∙ next k i (Some y) (slice_get xs k)

  -- all but the last
  get_take : (xs : List X) (n k : ℕ) → n + 1 ≡ length xs
      → slice_get (take n xs) k ≡ cond (eqb k n) None (slice_get xs k)
  get_take [] n k last = absurd (omega arith)
  get_take (x ∷ []) zero zero last = refl
  get_take (x ∷ []) zero (suc k) last = sym (later k None None)
  get_take (x ∷ []) (suc n) k last = absurd (omega arith)
  get_take (x ∷ y ∷ xs) zero k last = absurd (omega arith)
  get_take (x ∷ y ∷ xs) (suc n) zero last = sym (earlier n None (Some x))
  get_take (x ∷ y ∷ xs) (suc n) (suc k) last = get_take (y ∷ xs) n k (omega arith)
      ∙ next k n None (slice_get (y ∷ xs) k)

  get_last : (xs : List X) (n : ℕ) (d : X) → n < length xs → Some (get_or xs n d) ≡ slice_get xs n
  get_last [] n d within = absurd (omega arith)
  get_last (x ∷ xs) zero d within = refl
  get_last (x ∷ xs) (suc n) d within = get_last xs n d (omega arith)

  -- the last stands at the place that was left
  pub get_swap_remove : (xs : List X) (i last k : ℕ) (d : X) → i < length xs → last + 1 ≡ length xs
      → slice_get (swap_remove xs i d) k
      ≡ cond (eqb k last) None (cond (eqb k i) (slice_get xs last) (slice_get xs k))
  get_swap_remove xs i last k d within ends =
      let is : length xs - 1 ≡ last = omega arith in
      ap (λ n. slice_get (take n (slice_set xs i (get_or xs n d))) k) is
      ∙ get_take (slice_set xs i (get_or xs last d)) last k (ends ∙ sym (length-set xs i (get_or xs last d)))
      ∙ ap (cond (eqb k last) None) (get_set xs i k (get_or xs last d) within
      ∙ ap (λ x. cond (eqb k i) x (slice_get xs k)) (get_last xs last d (omega arith)))

-- the item of each number
pub item_at-items_of : {T : Type 0} (entries : List (T × ℕ)) (slots : List (Option Slot)) (n : ℕ)
    → item_at (items_of entries slots) n ≡ item_of (slice_get entries) (slot_at slots n)
item_at-items_of entries slots n = get_or-map (item_of (slice_get entries)) slots n None

pub length-items_of : {T : Type 0} (entries : List (T × ℕ)) (slots : List (Option Slot))
    → length (items_of entries slots) ≡ length slots
length-items_of entries slots = length-map slots (item_of (slice_get entries))
