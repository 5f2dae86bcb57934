-- What is left when a value leaves the table and the last one takes its place.
use Rattle.std.proofs.Common.{◌≡◌, ◌≢◌, ℕ, ◌+◌, ◌-◌, ◌<◌, Bool, true, false, Option, Some, None, cond, List, length}
use Rattle.std.proofs.Common.{eqb, refl, sym}
use Rattle.std.proofs.Common.{ap, subst, ◌∙◌, inl, inr, arith}
use Rattle.std.proofs.lemmas.Bool.{cases_eq, eq-eqb, ne_eqb}
use Rattle.std.proofs.lemmas.List.{length-set}
use Rattle.std.proofs.lemmas.Option.{none-some, slice_get_within, slice_get-get_or}
use Rattle.std.specs.Prelude.{slice_get, slice_set}
use Rattle.std.specs.List.{swap_remove}
use Rattle.std.specs.Option.{option_map}
use Rattle.value_pool.specs.declared.slots.Slot.{Slot}
use Rattle.value_pool.specs.Pool.{item_at}
use Rattle.value_pool.specs.Slots.{slot_at, place_in, number_in, at_place, moved, settled, settled_by, item_of}
use Rattle.value_pool.specs.Slots.{items_of, AreTied, AreMatched}
use Rattle.value_pool.proofs.ListLemmas.{at_set_none, at_set, within_some, same_options, get_swap_remove}
use Rattle.value_pool.proofs.ListLemmas.{item_at-items_of, length-items_of}
use Rattle.value_pool.proofs.TiedLemmas.{cleared, item_cleared, transferred, item_transferred}

-- a slot with another place
pub at_moved : (slots : List (Option Slot)) (number place n : ℕ) → slot_at (moved slots number place) n
    ≡ cond (eqb n number) (option_map (at_place place) (slot_at slots number)) (slot_at slots n)
at_moved slots number place n =
    elim (slot_at slots number) as (λ slot. slot_at slots number ≡ slot
    → slot_at (slice_set slots number (option_map (at_place place) slot)) n
    ≡ cond (eqb n number) (option_map (at_place place) slot) (slot_at slots n)) [
      | None ↦ λ is. at_set_none slots number n
      | Some slot ↦ λ is. at_set slots number n (Some (at_place place slot)) (within_some slots number slot is)
    ] refl

module _ {T : Type 0} (entries : List (T × ℕ)) (slots : List (Option Slot)) (number : ℕ) (slot : Slot) (entry : T × ℕ)
    (matched : AreMatched entries slots) (taken : slot_at slots number ≡ Some slot)
    (stands : slice_get entries slot.place ≡ Some entry) where
  abbrev left : List (T × ℕ)
  left = swap_remove entries slot.place entry

  abbrev freed : List (Option Slot)
  freed = slice_set slots number None

  abbrev last : ℕ
  last = length entries - 1

  abbrev cut : ℕ → Option (T × ℕ)
  cut k = cond (eqb k slot.place) None (slice_get entries k)

  within : slot.place < length entries
  within = slice_get_within entries slot.place entry stands

  ends : last + 1 ≡ length entries
  ends = let inside = within in omega arith

  after : (k : ℕ) → slice_get left k
      ≡ cond (eqb k last) None (cond (eqb k slot.place) (slice_get entries last) (slice_get entries k))
  after k = get_swap_remove entries slot.place last k entry within ends

  -- the number that was taken, and its entry, are gone
  tied_cut : AreTied cut (slot_at freed)
  tied_cut = cleared (slice_get entries) cut (slot_at slots) (slot_at freed) number slot.place matched
      (ap place_in taken) (λ k. refl) (at_set_none slots number)

  items_cut : (n : ℕ) → item_of cut (slot_at freed n)
      ≡ cond (eqb n number) None (item_of (slice_get entries) (slot_at slots n))
  items_cut n = item_cleared (slice_get entries) cut (slot_at slots) (slot_at freed) number slot.place matched
      (ap place_in taken) (λ k. refl) (at_set_none slots number) n

  -- what is left with these slots
  pub record IsLeft (now : List (Option Slot)) : Type 0 where
    pub matched_left : AreMatched left now
    pub items_left : (n : ℕ) → item_of (slice_get left) (slot_at now n)
        ≡ cond (eqb n number) None (item_of (slice_get entries) (slot_at slots n))
    pub length_left : length now ≡ length slots

  -- the entry stood last
  module _ (ended : slot.place ≡ last) where
    same_cut : (k : ℕ) → slice_get left k ≡ cut k
    same_cut k = elim (cases_eq k last) [
      | inl same ↦ after k ∙ ap (λ b. cond b None (cond (eqb k slot.place) (slice_get entries last)
          (slice_get entries k))) (eq-eqb k last same)
          ∙ sym (ap (λ b. cond b None (slice_get entries k)) (eq-eqb k slot.place (same ∙ sym ended)))
      | inr differs ↦
          let no_place : k ≢ slot.place = λ same. differs (same ∙ ended) in
          after k ∙ ap (λ b. cond b None (cond (eqb k slot.place) (slice_get entries last) (slice_get entries k)))
          (ne_eqb k last differs)
          ∙ ap (λ b. cond b (slice_get entries last) (slice_get entries k)) (ne_eqb k slot.place no_place)
          ∙ sym (ap (λ b. cond b None (slice_get entries k)) (ne_eqb k slot.place no_place))
    ]

    gone : slice_get left slot.place ≡ None
    gone = same_cut slot.place
        ∙ ap (λ b. cond b None (slice_get entries slot.place)) (eq-eqb slot.place slot.place refl)

    left_at_end : IsLeft (settled left freed slot.place)
    left_at_end = subst IsLeft (ap (λ found. settled_by (number_in found) freed slot.place) (sym gone)) (record {
      matched_left = cleared (slice_get entries) (slice_get left) (slot_at slots) (slot_at freed) number slot.place
          matched (ap place_in taken) same_cut (at_set_none slots number);
      items_left = λ n. item_cleared (slice_get entries) (slice_get left) (slot_at slots) (slot_at freed) number
          slot.place matched (ap place_in taken) same_cut (at_set_none slots number) n;
      length_left = length-set slots number None;
    })

  -- another entry stood last, and takes its place
  module _ (apart : last ≢ slot.place) (other : T × ℕ) (other_is : slice_get entries last ≡ Some other) where
    abbrev now : List (Option Slot)
    now = moved freed other.1 slot.place

    cut_last : cut last ≡ slice_get entries last
    cut_last = ap (λ b. cond b None (slice_get entries last)) (ne_eqb last slot.place apart)

    cut_twice : (k : ℕ) (b : Bool) → cond b (slice_get entries last) (slice_get entries k)
        ≡ cond b (cut last) (cond b None (slice_get entries k))
    cut_twice k true = sym cut_last
    cut_twice k false = refl

    after_cut : (k : ℕ) → slice_get left k ≡ cond (eqb k last) None (cond (eqb k slot.place) (cut last) (cut k))
    after_cut k = after k ∙ ap (cond (eqb k last) None) (cut_twice k (eqb k slot.place))

    cut_place : cut slot.place ≡ None
    cut_place = ap (λ b. cond b None (slice_get entries slot.place)) (eq-eqb slot.place slot.place refl)

    named : place_in (slot_at freed other.1) ≡ Some last
    named = tied_cut.numbered other.1 last (ap number_in (cut_last ∙ other_is))

    found : slice_get left slot.place ≡ Some other
    found = after slot.place
        ∙ ap (λ b. cond b None (cond (eqb slot.place slot.place) (slice_get entries last)
        (slice_get entries slot.place))) (ne_eqb slot.place last (λ same. apart (sym same)))
        ∙ ap (λ b. cond b (slice_get entries last) (slice_get entries slot.place))
        (eq-eqb slot.place slot.place refl)
        ∙ other_is

    left_between : IsLeft (settled left freed slot.place)
    left_between = subst IsLeft (ap (λ e. settled_by (number_in e) freed slot.place) (sym found)) (record {
      matched_left = transferred cut (slice_get left) (slot_at freed) (slot_at now) other.1 last slot.place apart
          tied_cut named cut_place after_cut (at_moved freed other.1 slot.place);
      items_left = λ n. item_transferred cut (slice_get left) (slot_at freed) (slot_at now) other.1 last slot.place
          apart tied_cut named cut_place after_cut (at_moved freed other.1 slot.place) n
          ∙ items_cut n;
      length_left = length-set freed other.1 (option_map (at_place slot.place) (slot_at freed other.1))
          ∙ length-set slots number None;
    })

  pub is_left : IsLeft (settled left freed slot.place)
  is_left = elim (cases_eq slot.place last) [
    | inl same ↦ left_at_end same
    | inr differs ↦
        elim (slice_get entries last) as (λ e. slice_get entries last ≡ e → IsLeft (settled left freed slot.place)) [
          | None ↦ λ is. absurd (none-some _ (sym is ∙ slice_get-get_or entries last entry
              (let e = ends in omega arith)))
          | Some other ↦ λ is. left_between (λ same. differs (sym same)) other is
        ] refl
  ]

  pub left_items : items_of left (settled left freed slot.place) ≡ slice_set (items_of entries slots) number None
  left_items =
      let now : List (Option Slot) = settled left freed slot.place in
      same_options (items_of left now) (slice_set (items_of entries slots) number None)
      (length-items_of left now ∙ is_left.length_left ∙ sym (length-items_of entries slots)
      ∙ sym (length-set (items_of entries slots) number None))
      (λ k. item_at-items_of left now k ∙ is_left.items_left k
      ∙ sym (at_set_none (items_of entries slots) number k
      ∙ ap (cond (eqb k number) None) (item_at-items_of entries slots k)))

  pub matched_after : (rest : List (T × ℕ)) (settled_slots : List (Option Slot)) → rest ≡ left
      → settled_slots ≡ settled rest freed slot.place → AreMatched rest settled_slots
  matched_after rest settled_slots is slots_are = subst (λ (es : List (T × ℕ)). AreMatched es settled_slots) (sym is)
      (subst (λ (ss : List (Option Slot)). AreMatched left ss)
      (sym (slots_are ∙ ap (λ es. settled es freed slot.place) is)) is_left.matched_left)

  pub items_after : (rest : List (T × ℕ)) (settled_slots : List (Option Slot)) → rest ≡ left
      → settled_slots ≡ settled rest freed slot.place
      → items_of rest settled_slots ≡ slice_set (items_of entries slots) number None
  items_after rest settled_slots is slots_are = ap (items_of rest) slots_are
      ∙ ap (λ es. items_of es (settled es freed slot.place)) is ∙ left_items

-- a number without a slot has no item to lose
pub nothing_taken : {T : Type 0} (entries : List (T × ℕ)) (slots : List (Option Slot)) (number : ℕ)
    → slot_at slots number ≡ None → items_of entries slots ≡ slice_set (items_of entries slots) number None
nothing_taken entries slots number none = same_options (items_of entries slots)
    (slice_set (items_of entries slots) number None) (sym (length-set (items_of entries slots) number None))
    (λ k. elim (cases_eq k number) [
      | inl same ↦ item_at-items_of entries slots k ∙ ap (λ n. item_of (slice_get entries) (slot_at slots n)) same
          ∙ ap (item_of (slice_get entries)) none
          ∙ sym (at_set_none (items_of entries slots) number k
          ∙ ap (λ b. cond b None (item_at (items_of entries slots) k)) (eq-eqb k number same))
      | inr differs ↦ sym (at_set_none (items_of entries slots) number k
          ∙ ap (λ b. cond b None (item_at (items_of entries slots) k)) (ne_eqb k number differs))
    ])

-- the place that a slot names has an entry
pub never_missing : {T : Type 0} (entries : List (T × ℕ)) (slots : List (Option Slot)) (number : ℕ) (slot : Slot)
    → AreMatched entries slots → slot_at slots number ≡ Some slot → slice_get entries slot.place ≡ None → ⊥
never_missing entries slots number slot matched taken none =
    none-some number (sym (ap number_in none) ∙ matched.placed number slot.place (ap place_in taken))
