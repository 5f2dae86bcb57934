-- Sections that are found by their numbers, and slots as others see them.
use Rattle.std.proofs.Common.{◌≡◌, ℕ, ◌<◌, ◌≤◌, zero, suc, Bool, true, false, cond, List, [], ◌∷◌, length, map}
use Rattle.std.proofs.Common.{Some, None, ◌+◌, refl, sym, ap, ◌∙◌, arith, ltb, take, take_all, Bor}
use Rattle.std.proofs.lemmas.Bool.{ltb-false, ltb-true}
use Rattle.std.proofs.lemmas.List.Folds.{find_at, list_any_at, list_any_more}
use Rattle.std.proofs.lemmas.Option.{slice_get_past, slice_get_read, slice_get-get_or}
use Rattle.std.specs.Prelude.{◌||◌, find, get_or, position, slice_get, IfSome, Option, is_some}
use Rattle.std.specs.List.{list_any, position_or_len}
use Rattle.std.specs.Option.{option_and_then, option_copied}
use Rattle.book_history.specs.Slots.{slot}

module _ {A : Type 0} where
  got_below : (xs : List A) (k : ℕ) (so : Bool) → ltb k (length xs) ≡ so
      → option_and_then (slice_get xs) (cond so (Some k) None) ≡ slice_get xs k
  got_below xs k true within = refl
  got_below xs k false past = sym (slice_get_past xs k (ltb-false k (length xs) past))

  -- what stands at the first place that passes is the first that passes
  pub position_got : (test : A → Bool) (xs : List A)
      → option_and_then (slice_get xs) (position test xs) ≡ find test xs
  position_got test xs =
      got_below xs (position_or_len test xs) (ltb (position_or_len test xs) (length xs)) refl ∙ sym (find_at test xs)

  so_below : (xs : List A) (k : ℕ) (so : Bool) → ltb k (length xs) ≡ so
      → is_some (cond so (Some k) None) ≡ is_some (slice_get xs k)
  so_below xs k false past = ap is_some (sym (slice_get_past xs k (ltb-false k (length xs) past)))
  so_below [] k true within = absurd (let less = ltb-true k 0 within in omega (arith, less))
  so_below (x ∷ xs) k true within =
      ap is_some (sym (slice_get-get_or (x ∷ xs) k x (ltb-true k (length (x ∷ xs)) within)))

  pub position_so : (test : A → Bool) (xs : List A) → is_some (position test xs) ≡ is_some (find test xs)
  position_so test xs =
      so_below xs (position_or_len test xs) (ltb (position_or_len test xs) (length xs)) refl
      ∙ ap is_some (sym (find_at test xs))

  pub slot_past : (slots : List (Option A)) (n : ℕ) → length slots ≤ n → slot slots n ≡ None
  slot_past slots n past = ap (option_and_then (λ (held : Option A). held)) (slice_get_past slots n past)

-- what a look at a place of a slice gave is what stands there
pub got_at : {A : Type 0} (xs : List A) (n : ℕ) (given : Option (Bor A)) → is_some given ≡ ltb n (length xs)
    → IfSome given (λ one. one.now ≡ get_or xs n one.now) → option_copied given ≡ slice_get xs n
got_at xs n None so is = sym (slice_get_past xs n (ltb-false n (length xs) (sym so)))
got_at xs n (Some one) so is =
    sym (slice_get_read xs (length xs) n one.now refl (ltb-true n (length xs) (sym so)) is)

-- ---- a loop that looks for one that passes

module _ {A : Type 0} (test : A → Bool) (xs : List A) where
  pub none_more : (i : ℕ) (x : A) → i < length xs → x ≡ get_or xs i x → test x ≡ false
      → list_any test (take i xs) ≡ false → list_any test (take (i + 1) xs) ≡ false
  none_more i x within is not none =
      list_any_more test xs i x within ∙ ap (λ so. so || test (get_or xs i x)) none ∙ ap test (sym is) ∙ not

  pub one_passes : (i : ℕ) (x : A) → i < length xs → x ≡ get_or xs i x → test x ≡ true → list_any test xs ≡ true
  one_passes i x within is so = list_any_at test xs i x within (ap test (sym is) ∙ so)

  pub none_passes : (i : ℕ) → length xs ≤ i → list_any test (take i xs) ≡ false → list_any test xs ≡ false
  none_passes i all none = ap (list_any test) (sym (take_all i xs all)) ∙ none

-- ---- what is in slots

-- what is in slots, by a function that gives nothing for a vacant one
pub slot_map : {A B : Type 0} (f : Option A → Option B) → f None ≡ None → (slots : List (Option A)) (n : ℕ)
    → slot (map f slots) n ≡ f (slot slots n)
slot_map f none [] n = sym none
slot_map f none (held ∷ slots) zero = refl
slot_map f none (held ∷ slots) (suc n) = slot_map f none slots n

-- any of some slots passes, where these are the slots and more that don't
pub any_slot : {A P S : Type 0} (test : Option S → Bool) → test None ≡ false → (of : P → Option S)
    (told : Option A → Option S) → told None ≡ None → (slots : List (Option A)) (peers : List P)
    → length slots ≤ length peers
    → ((n : ℕ) (is : P) → slice_get peers n ≡ Some is → of is ≡ told (slot slots n))
    → list_any (λ is. test (of is)) peers ≡ list_any (λ held. test (told held)) slots
any_slot test none of told vacant [] [] few same = refl
any_slot test none of told vacant (held ∷ slots) [] few same = absurd (omega (arith, few))
any_slot test none of told vacant [] (is ∷ peers) few same =
    ap (λ b. b || list_any (λ i. test (of i)) peers) (ap test (same 0 is refl ∙ vacant) ∙ none)
    ∙ any_slot test none of told vacant [] peers (omega arith) (λ n i at. same (suc n) i at)
any_slot test none of told vacant (held ∷ slots) (is ∷ peers) few same =
    ap (λ b. b || list_any (λ i. test (of i)) peers) (ap test (same 0 is refl))
    ∙ ap (λ b. test (told held) || b) (any_slot test none of told vacant slots peers (omega (arith, few))
    (λ n i at. same (suc n) i at))
