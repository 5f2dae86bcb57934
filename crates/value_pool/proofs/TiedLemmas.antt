-- Slots and entries that are tied, when one of each is gone, when an entry moves, and when one of each is new.
use Rattle.std.proofs.Common.{◌≡◌, ◌≢◌, ℕ, Option, Some, None, cond, eqb, refl, sym, ap, ◌∙◌, inl, inr}
use Rattle.std.proofs.lemmas.Bool.{cases_eq, eq-eqb, ne_eqb}
use Rattle.std.proofs.lemmas.Option.{none-some, same_Some}
use Rattle.std.specs.Option.{option_map}
use Rattle.value_pool.specs.declared.slots.Slot.{Slot}
use Rattle.value_pool.specs.Slots.{place_in, number_in, item_of, at_place, AreTied}

-- what a test of two numbers gives
chosen : {A : Type 0} (n m : ℕ) (x y : A) → n ≡ m → cond (eqb n m) x y ≡ x
chosen n m x y same = ap (λ b. cond b x y) (eq-eqb n m same)

passed : {A : Type 0} (n m : ℕ) (x y : A) → n ≢ m → cond (eqb n m) x y ≡ y
passed n m x y differs = ap (λ b. cond b x y) (ne_eqb n m differs)

-- the number of a slot and its entry are gone
module _ {T : Type 0} (e f : ℕ → Option (T × ℕ)) (s t : ℕ → Option Slot) (number place : ℕ)
    (tied : AreTied e s) (taken : place_in (s number) ≡ Some place)
    (entries : (k : ℕ) → f k ≡ cond (eqb k place) None (e k))
    (slots : (n : ℕ) → t n ≡ cond (eqb n number) None (s n)) where
  slot_kept : (n p : ℕ) → place_in (t n) ≡ Some p → (n ≢ number) × (place_in (s n) ≡ Some p)
  slot_kept n p there = elim (cases_eq n number) [
    | inl same ↦ absurd (none-some p (sym (ap place_in (slots n ∙ chosen n number None (s n) same)) ∙ there))
    | inr differs ↦ (differs, sym (ap place_in (slots n ∙ passed n number None (s n) differs)) ∙ there)
  ]

  entry_kept : (n p : ℕ) → number_in (f p) ≡ Some n → (p ≢ place) × (number_in (e p) ≡ Some n)
  entry_kept n p there = elim (cases_eq p place) [
    | inl same ↦ absurd (none-some n (sym (ap number_in (entries p ∙ chosen p place None (e p) same)) ∙ there))
    | inr differs ↦ (differs, sym (ap number_in (entries p ∙ passed p place None (e p) differs)) ∙ there)
  ]

  -- another number's slot names another place
  other_place : (n p : ℕ) → n ≢ number → place_in (s n) ≡ Some p → p ≢ place
  other_place n p differs there same = differs (same_Some n number (sym (tied.placed n p there)
      ∙ ap (λ k. number_in (e k)) same ∙ tied.placed number place taken))

  other_number : (n p : ℕ) → p ≢ place → number_in (e p) ≡ Some n → n ≢ number
  other_number n p differs there same = differs (same_Some p place (sym (tied.numbered n p there)
      ∙ ap (λ k. place_in (s k)) same ∙ taken))

  pub cleared : AreTied f t
  cleared = record {
    placed = λ n p there.
        let kept = slot_kept n p there in
        ap number_in (entries p ∙ passed p place None (e p) (other_place n p kept.0 kept.1))
        ∙ tied.placed n p kept.1;
    numbered = λ n p there.
        let kept = entry_kept n p there in
        ap place_in (slots n ∙ passed n number None (s n) (other_number n p kept.0 kept.1))
        ∙ tied.numbered n p kept.1;
  }

  item_kept : (n : ℕ) (slot : Option Slot) → n ≢ number → s n ≡ slot → item_of f slot ≡ item_of e slot
  item_kept n None differs is = refl
  item_kept n (Some slot) differs is =
      ap (option_map (λ entry. (entry.0, slot.tag)))
      (entries slot.place ∙ passed slot.place place None (e slot.place)
      (other_place n slot.place differs (ap place_in is)))

  pub item_cleared : (n : ℕ) → item_of f (t n) ≡ cond (eqb n number) None (item_of e (s n))
  item_cleared n = elim (cases_eq n number) [
    | inl same ↦ ap (item_of f) (slots n ∙ chosen n number None (s n) same)
        ∙ sym (chosen n number None (item_of e (s n)) same)
    | inr differs ↦ ap (item_of f) (slots n ∙ passed n number None (s n) differs) ∙ item_kept n (s n) differs refl
        ∙ sym (passed n number None (item_of e (s n)) differs)
  ]

-- an entry moves to a place where none stands
module _ {T : Type 0} (e f : ℕ → Option (T × ℕ)) (s t : ℕ → Option Slot) (number last place : ℕ) (apart : last ≢ place)
    (tied : AreTied e s) (taken : place_in (s number) ≡ Some last) (free : e place ≡ None)
    (entries : (k : ℕ) → f k ≡ cond (eqb k last) None (cond (eqb k place) (e last) (e k)))
    (slots : (n : ℕ) → t n ≡ cond (eqb n number) (option_map (at_place place) (s number)) (s n)) where
  at_last : f last ≡ None
  at_last = entries last ∙ chosen last last None (cond (eqb last place) (e last) (e last)) refl

  at_target : f place ≡ e last
  at_target = entries place ∙ passed place last None (cond (eqb place place) (e last) (e place)) (λ same. apart
      (sym same))
      ∙ chosen place place (e last) (e place) refl

  elsewhere : (k : ℕ) → k ≢ last → k ≢ place → f k ≡ e k
  elsewhere k no_last no_place = entries k ∙ passed k last None (cond (eqb k place) (e last) (e k)) no_last
      ∙ passed k place (e last) (e k) no_place

  of_number : t number ≡ option_map (at_place place) (s number)
  of_number = slots number ∙ chosen number number (option_map (at_place place) (s number)) (s number) refl

  of_other : (n : ℕ) → n ≢ number → t n ≡ s n
  of_other n differs = slots n ∙ passed n number (option_map (at_place place) (s number)) (s n) differs

  placed_anew : (slot : Option Slot) (p : ℕ) → place_in slot ≡ Some p
      → place_in (option_map (at_place place) slot) ≡ Some place
  placed_anew None p is = absurd (none-some p is)
  placed_anew (Some slot) p is = refl

  number_placed : place_in (t number) ≡ Some place
  number_placed = ap place_in of_number ∙ placed_anew (s number) last taken

  -- no other slot names either place
  other_place_moved : (n p : ℕ) → n ≢ number → place_in (s n) ≡ Some p → (p ≢ last) × (p ≢ place)
  other_place_moved n p differs there = (
    λ same. differs (same_Some n number (sym (tied.placed n p there) ∙ ap (λ k. number_in (e k)) same
        ∙ tied.placed number last taken)),
    λ same. none-some n (sym (ap number_in (ap e same ∙ free)) ∙ tied.placed n p there),
  )

  placed_moved : (n p : ℕ) → place_in (t n) ≡ Some p → number_in (f p) ≡ Some n
  placed_moved n p there = elim (cases_eq n number) [
    | inl same ↦
        let is : place ≡ p = same_Some place p (sym number_placed ∙ ap (λ k. place_in (t k)) (sym same) ∙ there) in
        ap (λ k. number_in (f k)) (sym is) ∙ ap number_in at_target ∙ tied.placed number last taken ∙ ap Some (sym same)
    | inr differs ↦
        let was = sym (ap place_in (of_other n differs)) ∙ there in
        let others = other_place_moved n p differs was in
        ap number_in (elsewhere p others.0 others.1) ∙ tied.placed n p was
  ]

  numbered_moved : (n p : ℕ) → number_in (f p) ≡ Some n → place_in (t n) ≡ Some p
  numbered_moved n p there = elim (cases_eq p last) [
    | inl same ↦ absurd (none-some n (sym (ap number_in (ap f same ∙ at_last)) ∙ there))
    | inr no_last ↦ elim (cases_eq p place) [
      | inl same ↦
          let is : number ≡ n = same_Some number n (sym (tied.placed number last taken)
          ∙ sym (ap number_in (ap f same ∙ at_target)) ∙ there) in
          ap (λ k. place_in (t k)) (sym is) ∙ number_placed ∙ ap Some (sym same)
      | inr no_place ↦
          let was = sym (ap number_in (elsewhere p no_last no_place)) ∙ there in
          let differs : n ≢ number = λ same. no_last (same_Some p last (sym (tied.numbered n p was)
          ∙ ap (λ k. place_in (s k)) same ∙ taken)) in
          ap place_in (of_other n differs) ∙ tied.numbered n p was
    ]
  ]

  pub transferred : AreTied f t
  transferred = record { placed = placed_moved; numbered = numbered_moved }

  item_of_number : (slot : Option Slot) → place_in slot ≡ Some last
      → item_of f (option_map (at_place place) slot) ≡ item_of e slot
  item_of_number None is = refl
  item_of_number (Some slot) is = ap (option_map (λ entry. (entry.0, slot.tag)))
      (at_target ∙ ap e (sym (same_Some slot.place last is)))

  item_of_other : (n : ℕ) (slot : Option Slot) → n ≢ number → s n ≡ slot → item_of f slot ≡ item_of e slot
  item_of_other n None differs is = refl
  item_of_other n (Some slot) differs is =
      let others = other_place_moved n slot.place differs (ap place_in is) in
      ap (option_map (λ entry. (entry.0, slot.tag))) (elsewhere slot.place others.0 others.1)

  pub item_transferred : (n : ℕ) → item_of f (t n) ≡ item_of e (s n)
  item_transferred n = elim (cases_eq n number) [
    | inl same ↦ ap (λ k. item_of f (t k)) same ∙ ap (item_of f) of_number ∙ item_of_number (s number) taken
        ∙ ap (λ k. item_of e (s k)) (sym same)
    | inr differs ↦ ap (item_of f) (of_other n differs) ∙ item_of_other n (s n) differs refl
  ]

-- a number and a place that were free have a slot and an entry
module _ {T : Type 0} (e f : ℕ → Option (T × ℕ)) (s t : ℕ → Option Slot) (number place tag : ℕ) (value : T)
    (tied : AreTied e s) (no_slot : s number ≡ None) (no_entry : e place ≡ None)
    (entries : (k : ℕ) → f k ≡ cond (eqb k place) (Some (value, number)) (e k))
    (slots : (n : ℕ) → t n ≡ cond (eqb n number) (Some (record { place = place; tag = tag })) (s n)) where
  entry_new : f place ≡ Some (value, number)
  entry_new = entries place ∙ chosen place place (Some (value, number)) (e place) refl

  entry_old : (k : ℕ) → k ≢ place → f k ≡ e k
  entry_old k differs = entries k ∙ passed k place (Some (value, number)) (e k) differs

  slot_new : t number ≡ Some (record { place = place; tag = tag })
  slot_new = slots number ∙ chosen number number (Some (record { place = place; tag = tag })) (s number) refl

  slot_old : (n : ℕ) → n ≢ number → t n ≡ s n
  slot_old n differs = slots n ∙ passed n number (Some (record { place = place; tag = tag })) (s n) differs

  old_place : (n p : ℕ) → place_in (s n) ≡ Some p → p ≢ place
  old_place n p there same = none-some n (sym (ap number_in (ap e same ∙ no_entry)) ∙ tied.placed n p there)

  old_number : (n p : ℕ) → number_in (e p) ≡ Some n → n ≢ number
  old_number n p there same = none-some p (sym (ap place_in (ap s same ∙ no_slot)) ∙ tied.numbered n p there)

  placed_new : (n p : ℕ) → place_in (t n) ≡ Some p → number_in (f p) ≡ Some n
  placed_new n p there = elim (cases_eq n number) [
    | inl same ↦
        let is : place ≡ p = same_Some place p (sym (ap place_in slot_new) ∙ ap (λ k. place_in (t k))
        (sym same) ∙ there) in
        ap (λ k. number_in (f k)) (sym is) ∙ ap number_in entry_new ∙ ap Some (sym same)
    | inr differs ↦
        let was = sym (ap place_in (slot_old n differs)) ∙ there in
        ap number_in (entry_old p (old_place n p was)) ∙ tied.placed n p was
  ]

  numbered_new : (n p : ℕ) → number_in (f p) ≡ Some n → place_in (t n) ≡ Some p
  numbered_new n p there = elim (cases_eq p place) [
    | inl same ↦
        let is : number ≡ n = same_Some number n (sym (ap number_in entry_new) ∙ ap (λ k. number_in (f k))
        (sym same) ∙ there) in
        ap (λ k. place_in (t k)) (sym is) ∙ ap place_in slot_new ∙ ap Some (sym same)
    | inr differs ↦
        let was = sym (ap number_in (entry_old p differs)) ∙ there in
        ap place_in (slot_old n (old_number n p was)) ∙ tied.numbered n p was
  ]

  pub added : AreTied f t
  added = record { placed = placed_new; numbered = numbered_new }

  item_old : (n : ℕ) (slot : Option Slot) → s n ≡ slot → item_of f slot ≡ item_of e slot
  item_old n None is = refl
  item_old n (Some slot) is = ap (option_map (λ entry. (entry.0, slot.tag)))
      (entry_old slot.place (old_place n slot.place (ap place_in is)))

  pub item_added : (n : ℕ) → item_of f (t n) ≡ cond (eqb n number) (Some (value, tag)) (item_of e (s n))
  item_added n = elim (cases_eq n number) [
    | inl same ↦ ap (λ k. item_of f (t k)) same ∙ ap (item_of f) slot_new
        ∙ ap (option_map (λ entry. (entry.0, tag))) entry_new
        ∙ sym (chosen n number (Some (value, tag)) (item_of e (s n)) same)
    | inr differs ↦ ap (item_of f) (slot_old n differs) ∙ item_old n (s n) refl
        ∙ sym (passed n number (Some (value, tag)) (item_of e (s n)) differs)
  ]
