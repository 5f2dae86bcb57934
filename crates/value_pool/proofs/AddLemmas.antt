-- What is left of a pool when a value is added.
use Rattle.std.proofs.Common.{◌≡◌, ℕ, zero, suc, ◌+◌, ◌-◌, ◌<◌, ◌≤◌, true, false, Option, Some, None, is_some, cond}
use Rattle.std.proofs.Common.{List, [], ◌∷◌, ◌++◌, length, get_or, eqb, refl, sym, ap, subst, ◌∙◌, inl, inr, arith}
use Rattle.std.proofs.Common.{length-append}
use Rattle.std.proofs.lemmas.Grind.{common_steps}
use Rattle.std.proofs.lemmas.Bool.{cases_eq, eq-eqb, ne_eqb}
use Rattle.std.proofs.lemmas.List.{length-set, get_or_past}
use Rattle.std.proofs.lemmas.Option.{slice_get_past}
use Rattle.std.specs.Prelude.{nat_lt, slice_get, slice_set}
use Rattle.linked_pending.specs.Listing.{Listing, has}
use Rattle.linked_pending.proofs.ListingLemmas.{has_first, has_rest}
use Rattle.value_pool.specs.declared.slots.Slot.{Slot}
use Rattle.value_pool.specs.Pool.{item_at, with_item, Adds}
use Rattle.value_pool.specs.Slots.{slot_at, next_number, with_slot, item_of, items_of, AreFree, AreMatched, IsPool}
use Rattle.value_pool.proofs.ListLemmas.{at_set, at_push, same_options, get_push, item_at-items_of, length-items_of}
use Rattle.value_pool.proofs.TiedLemmas.{added, item_added}

-- a list with one more option, or another, at a place
module _ {X : Type 0} (xs : List (Option X)) (number : ℕ) (y : Option X) (within : number ≤ length xs) where
  abbrev with_one : List (Option X)
  with_one = cond (nat_lt number (length xs)) (slice_set xs number y) (xs ++ y ∷ [])

  at_with : (n : ℕ) → get_or with_one n None ≡ cond (eqb n number) y (get_or xs n None)
  at_with n = elim (nat_lt number (length xs)) as (λ b. nat_lt number (length xs) ≡ b
      → get_or (cond b (slice_set xs number y) (xs ++ y ∷ [])) n None ≡ cond (eqb n number) y (get_or xs n None)) [
        | true ↦ λ below. at_set xs number n y (grind (arith, common_steps, below))
        | false ↦ λ past.
            let is : length xs ≡ number = grind (arith, common_steps, past, within) in
            at_push xs n y ∙ ap (λ m. cond (eqb n m) y (get_or xs n None)) is
      ] refl

length_with : {X : Type 0} (xs : List (Option X)) (number : ℕ) (y : Option X)
    → length (cond (nat_lt number (length xs)) (slice_set xs number y) (xs ++ y ∷ []))
    ≡ cond (nat_lt number (length xs)) (length xs) (length xs + 1)
length_with xs number y = elim (nat_lt number (length xs)) as (λ b.
    length (cond b (slice_set xs number y) (xs ++ y ∷ [])) ≡ cond b (length xs) (length xs + 1)) [
      | true ↦ length-set xs number y
      | false ↦ length-append xs (y ∷ [])
    ]

-- the next number is free, and not past the next new one
has_get : (free : List ℕ) (i d : ℕ) → i < length free → has (get_or free i d) free ≡ true
has_get [] i d within = absurd (omega arith)
has_get (first ∷ rest) zero d within = has_first first rest
has_get (first ∷ rest) (suc i) d within = has_rest (get_or rest i d) first rest (has_get rest i d (omega arith))

next_free : (slots : List (Option Slot)) (free : List ℕ) → AreFree slots free
    → (slot_at slots (next_number slots free) ≡ None) × (next_number slots free ≤ length slots)
next_free slots [] are = (get_or_past slots (length slots) None (omega arith), omega arith)
next_free slots (first ∷ rest) are =
    let there : has (next_number slots (first ∷ rest)) (first ∷ rest) ≡ true =
    has_get (first ∷ rest) (length (first ∷ rest) - 1) (length slots) (omega arith) in
    let within = are.within (next_number slots (first ∷ rest)) there in
    (are.vacant (next_number slots (first ∷ rest)) there, omega (arith, within))

module _ {T : Type 0} (entries grown : List (T × ℕ)) (slots later : List (Option Slot)) (free less : List ℕ)
    (space more : ℕ) (idle wider : Listing) (was : IsPool entries slots free space idle) (value : T)
    (place tag number : ℕ) (place_is : place ≡ length entries) (number_is : number ≡ next_number slots free)
    (grown_is : grown ≡ entries ++ (value, number) ∷ [])
    (later_is : later ≡ with_slot slots number (record { place = place; tag = tag })) where
  vacant : slot_at slots number ≡ None
  vacant = ap (slot_at slots) number_is ∙ (next_free slots free was.free).0

  within : number ≤ length slots
  within = subst (λ n. n ≤ length slots) (sym number_is) (next_free slots free was.free).1

  entry_later : (k : ℕ) → slice_get grown k ≡ cond (eqb k place) (Some (value, number)) (slice_get entries k)
  entry_later k = ap (λ es. slice_get es k) grown_is ∙ get_push entries k (value, number)
      ∙ ap (λ m. cond (eqb k m) (Some (value, number)) (slice_get entries k)) (sym place_is)

  slot_later : (n : ℕ) → slot_at later n
      ≡ cond (eqb n number) (Some (record { place = place; tag = tag })) (slot_at slots n)
  slot_later n = ap (λ ss. slot_at ss n) later_is
      ∙ at_with slots number (Some (record { place = place; tag = tag })) within n

  no_entry : slice_get entries place ≡ None
  no_entry = slice_get_past entries place (omega (arith, place_is))

  pub matched_later : AreMatched grown later
  matched_later = added (slice_get entries) (slice_get grown) (slot_at slots) (slot_at later) number place tag value
      was.matched vacant no_entry entry_later slot_later

  item_later : (n : ℕ) → item_at (items_of grown later) n
      ≡ cond (eqb n number) (Some (value, tag)) (item_at (items_of entries slots) n)
  item_later n = item_at-items_of grown later n
      ∙ item_added (slice_get entries) (slice_get grown) (slot_at slots) (slot_at later) number place tag value
      was.matched vacant no_entry entry_later slot_later n
      ∙ ap (cond (eqb n number) (Some (value, tag))) (sym (item_at-items_of entries slots n))

  length_later : length later ≡ cond (nat_lt number (length slots)) (length slots) (length slots + 1)
  length_later = ap length later_is ∙ length_with slots number (Some (record { place = place; tag = tag }))

  items_later : items_of grown later ≡ with_item (items_of entries slots) number (value, tag)
  items_later =
      let same = length-items_of entries slots in
      same_options (items_of grown later) (with_item (items_of entries slots) number (value, tag))
      (length-items_of grown later ∙ length_later
      ∙ ap (λ m. cond (nat_lt number m) m (m + 1)) (sym same)
      ∙ sym (length_with (items_of entries slots) number (Some (value, tag))))
      (λ k. item_later k
      ∙ sym (at_with (items_of entries slots) number (Some (value, tag)) (subst (λ m. number ≤ m) (sym same) within) k))

  pub adds : wider.items ≡ idle.items
      → Adds {T = T} (record { items = items_of entries slots; idle = idle.items })
      (record { items = items_of grown later; idle = wider.items }) number (value, tag)
  adds same_idle = record {
    free = item_at-items_of entries slots number ∙ ap (item_of (slice_get entries)) vacant;
    next = subst (λ m. number ≤ m) (sym (length-items_of entries slots)) within;
    items = items_later;
    others = item_later;
    idle = same_idle;
  }

  -- there is room for the numbers of the slots
  room_for : (room : ℕ) → length slots ≤ room → ((free ≡ []) → length slots < room) → length later ≤ room
  room_for room enough spare = by free refl
    where
      by : (numbers : List ℕ) → free ≡ numbers → length later ≤ room
      by [] is =
          let one_more : length slots < room = spare is in
          let bound : cond (nat_lt number (length slots)) (length slots) (length slots + 1) ≤ length slots + 1 =
          elim (nat_lt number (length slots)) as (λ b. cond b (length slots) (length slots + 1) ≤ length slots + 1) [
            | true ↦ omega arith
            | false ↦ omega arith
          ] in
          omega (arith, length_later, one_more, bound)
      by (first ∷ rest) is =
          let there = has_get (first ∷ rest) (length (first ∷ rest) - 1) (length slots) (omega arith) in
          let inside : number < length slots =
          subst (λ n. n < length slots) (sym (number_is ∙ ap (next_number slots) is))
          (was.free.within (next_number slots (first ∷ rest)) (ap (has (next_number slots
          (first ∷ rest))) is ∙ there)) in
          let below : nat_lt number (length slots) ≡ true = grind (arith, common_steps, inside) in
          let same : length later ≡ length slots =
          length_later ∙ ap (λ b. cond b (length slots) (length slots + 1)) below in
          omega (arith, same, enough)

  pub grown_pool : AreFree later less → length less + length slots + 1 ≡ length free + length later
      → length slots ≤ more → idle.room ≤ wider.room → wider.items ≡ idle.items
      → ((free ≡ []) → (length slots < more) × (length slots < wider.room)) → IsPool grown later less more wider
  grown_pool less_free count enough room same_idle spare = record {
    matched = matched_later;
    free = less_free;
    count = omega (arith, was.count, count, ap length grown_is, length-append entries ((value, number) ∷ []));
    spacious = room_for more enough (λ none. (spare none).0);
    roomy = room_for wider.room (omega (arith, was.roomy, room)) (λ none. (spare none).1);
    held = λ n there. elim (cases_eq n number) [
      | inl same ↦ ap is_some (slot_later n
          ∙ ap (λ b. cond b (Some (record { place = place; tag = tag })) (slot_at slots n)) (eq-eqb n number same))
      | inr differs ↦ ap is_some (slot_later n
          ∙ ap (λ b. cond b (Some (record { place = place; tag = tag })) (slot_at slots n)) (ne_eqb n number differs))
          ∙ was.held n (sym (ap (has n) same_idle) ∙ there)
    ];
  }
