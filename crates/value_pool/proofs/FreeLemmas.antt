-- The free numbers, when the last is taken and when one is freed.
use Rattle.std.proofs.Common.{◌≡◌, ℕ, ◌-◌, ◌<◌, true, false, Option, Some, None, cond}
use Rattle.std.proofs.Common.{List, [], ◌∷◌, ◌++◌, length, get_or, refl, sym, ap, ◌∙◌, inl, inr, arith}
use Rattle.std.proofs.Common.{length-append}
use Rattle.std.specs.Prelude.{slice_set, nat_lt}
use Rattle.std.proofs.lemmas.Grind.{common_steps}
use Rattle.std.proofs.lemmas.Bool.{cases_eq, ne_eqb}
use Rattle.std.proofs.lemmas.List.{length-set}
use Rattle.linked_pending.specs.Listing.{has, AreApart}
use Rattle.linked_pending.proofs.ListingLemmas.{has_first, has_rest, has-append, differs}
use Rattle.value_pool.specs.declared.slots.Slot.{Slot}
use Rattle.value_pool.specs.Slots.{slot_at, next_number, with_slot, AreFree}
use Rattle.value_pool.proofs.ListLemmas.{at_set}

-- the last of numbers that stand once
has_last : (rest : List ℕ) (number : ℕ) → has number (rest ++ number ∷ []) ≡ true
has_last [] number = has_first number []
has_last (first ∷ rest) number = has_rest number first (rest ++ number ∷ []) (has_last rest number)

has_before : (rest : List ℕ) (number n : ℕ) → has n rest ≡ true → has n (rest ++ number ∷ []) ≡ true
has_before rest number n there = grind (arith, common_steps, there, has-append n rest (number ∷ []))

last_apart : (rest : List ℕ) (number : ℕ) → AreApart (rest ++ number ∷ []) → (has number rest ≡ false) × AreApart rest
last_apart [] number apart = (refl, tt)
last_apart (first ∷ rest) number apart =
    let others = last_apart rest number apart.1 in
    let no_last : has first (rest ++ number ∷ []) ≡ false = apart.0 in
    let test = has-append first rest (number ∷ []) in (
      grind (arith, common_steps, others.0, no_last, test),
      (grind (arith, common_steps, no_last, test), others.1),
    )

push_apart : (rest : List ℕ) (number : ℕ) → has number rest ≡ false → AreApart rest → AreApart (rest ++ number ∷ [])
push_apart [] number absent apart = (refl, tt)
push_apart (first ∷ rest) number absent apart =
    let test = has-append first rest (number ∷ []) in
    let absent_rest : has number rest ≡ false = grind (arith, common_steps) in (
      grind (arith, common_steps, absent, apart.0, test),
      push_apart rest number absent_rest apart.1,
    )

at_length : {X : Type 0} (xs : List X) (y d : X) → get_or (xs ++ y ∷ []) (length xs) d ≡ y
at_length [] y d = refl
at_length (x ∷ xs) y d = at_length xs y d

pub next_is_last : (slots : List (Option Slot)) (rest : List ℕ) (number : ℕ)
    → next_number slots (rest ++ number ∷ []) ≡ number
next_is_last slots rest number =
    let ends : length (rest ++ number ∷ []) - 1 ≡ length rest = omega (arith, length-append rest (number ∷ [])) in
    ap (λ i. get_or (rest ++ number ∷ []) i (length slots)) ends ∙ at_length rest number (length slots)

-- the last free number is taken
module _ (slots : List (Option Slot)) (rest : List ℕ) (number : ℕ) (slot : Slot)
    (free : AreFree slots (rest ++ number ∷ [])) where
  pub taken_within : number < length slots
  taken_within = free.within number (has_last rest number)

  pub taken_slots : slice_set slots number (Some slot) ≡ with_slot slots (next_number slots (rest ++ number ∷ [])) slot
  taken_slots =
      let within = taken_within in
      let below : nat_lt number (length slots) ≡ true = grind (arith, common_steps, within) in
      ap (λ b. cond b (slice_set slots number (Some slot)) (slots ++ Some slot ∷ [])) (sym below)
      ∙ ap (λ n. with_slot slots n slot) (sym (next_is_last slots rest number))

  pub taken_free : AreFree (slice_set slots number (Some slot)) rest
  taken_free =
      let apart = last_apart rest number free.apart in
      record {
        vacant = λ n there. at_set slots number n (Some slot) taken_within
            ∙ ap (λ b. cond b (Some slot) (slot_at slots n)) (ne_eqb n number (differs n number rest apart.0 there))
            ∙ free.vacant n (has_before rest number n there);
        within = λ n there.
            let inside = free.within n (has_before rest number n there) in
            omega (arith, length-set slots number (Some slot), inside);
        apart = apart.1;
      }

-- a number that had a slot is freed
pub freed_free : (slots later : List (Option Slot)) (free : List ℕ) (number : ℕ) → AreFree slots free
    → length later ≡ length slots → number < length slots → slot_at later number ≡ None
    → ((n : ℕ) → slot_at slots n ≡ None → slot_at later n ≡ None) → has number free ≡ false
    → AreFree later (free ++ number ∷ [])
freed_free slots later free number was lengths within none kept absent = record {
  vacant = λ n there. elim (cases_eq n number) [
    | inl same ↦ ap (slot_at later) same ∙ none
    | inr differs_here ↦ kept n (was.vacant n (grind (
      arith,
      common_steps,
      there,
      has-append n free (number ∷ []),
      ne_eqb n number differs_here,
    )))
  ];
  within = λ n there. elim (cases_eq n number) [
    | inl same ↦ omega arith
    | inr differs_here ↦
        let before : has n free ≡ true = grind (
          arith,
          common_steps,
          there,
          has-append n free (number ∷ []),
          ne_eqb n number differs_here,
        ) in
        let inside = was.within n before in
        omega arith
  ];
  apart = push_apart free number absent was.apart;
}
