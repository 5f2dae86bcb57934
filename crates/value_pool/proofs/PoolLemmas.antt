-- What holds of a pool when a number is noted or forgotten, when a value is added and when one is taken out.
use Rattle.std.proofs.Common.{◌≡◌, ◌≢◌, ℕ, ◌+◌, ◌<◌, ◌≤◌, Bool, true, false, Option, Some, None, is_some, cond, eqb}
use Rattle.std.proofs.Common.{List, [], ◌∷◌, ◌++◌, length, refl, sym, ap, subst, ◌∙◌, inl, inr, arith, length-append}
use Rattle.std.proofs.lemmas.Grind.{common_steps}
use Rattle.std.proofs.lemmas.Bool.{cases_eq, eq-eqb, ne_eqb, false≢true}
use Rattle.std.proofs.lemmas.List.{length-set}
use Rattle.std.specs.Prelude.{slice_set}
use Rattle.std.specs.Option.{option_map}
use Rattle.linked_pending.specs.Listing.{Listing, has, without}
use Rattle.linked_pending.proofs.ListingLemmas.{has-without, has-append, without_absent}
use Rattle.value_pool.specs.declared.slots.Slot.{Slot}
use Rattle.value_pool.specs.Pool.{item_at, noted, TakesOut}
use Rattle.value_pool.specs.Slots.{slot_at, items_of, AreFree, AreMatched, IsPool}
use Rattle.value_pool.proofs.ListLemmas.{at_set_none, within_some, length-items_of}
use Rattle.value_pool.proofs.FreeLemmas.{freed_free}
use Rattle.value_pool.proofs.ItemLemmas.{some_map, same_some}

-- of numbers of which one has left, each is another and was there before
pub kept_without : (n number : ℕ) (idle : List ℕ) → has n (without number idle) ≡ true
    → (n ≢ number) × (has n idle ≡ true)
kept_without n number idle there =
    let test = has-without n number idle in (
      λ same. absurd (false≢true (grind (arith, common_steps, eq-eqb n number same, test, there))),
      grind (arith, common_steps, test, there),
    )

pub gone_without : (number : ℕ) (idle : List ℕ) → has number (without number idle) ≡ false
gone_without number idle = grind (arith, common_steps, eq-eqb number number refl, has-without number number idle)

-- among noted numbers, one is the number or was there before
noted_before : (n number : ℕ) (idle : List ℕ) → has n (noted number idle) ≡ true → n ≢ number → has n idle ≡ true
noted_before n number idle there differs =
    let test = has-append n (without number idle) (number ∷ []) in
    let other = ne_eqb n number differs in
    (kept_without n number idle (grind (arith, common_steps, test, other, there))).1

module _ {T : Type 0} (entries : List (T × ℕ)) (slots : List (Option Slot)) (free : List ℕ) (space : ℕ)
    (idle later : Listing) (was : IsPool entries slots free space idle) (number : ℕ)
    (room : later.room ≡ idle.room) where
  pub forgotten : later.items ≡ without number idle.items → IsPool entries slots free space later
  forgotten is = record {
    matched = was.matched;
    free = was.free;
    count = was.count;
    spacious = was.spacious;
    roomy = subst (λ r. length slots ≤ r) (sym room) was.roomy;
    held = λ n there. was.held n (kept_without n number idle.items (sym (ap (has n) is) ∙ there)).1;
  }

  pub noted_too : later.items ≡ noted number idle.items → is_some (item_at (items_of entries slots) number) ≡ true
      → IsPool entries slots free space later
  noted_too is stands = record {
    matched = was.matched;
    free = was.free;
    count = was.count;
    spacious = was.spacious;
    roomy = subst (λ r. length slots ≤ r) (sym room) was.roomy;
    held = λ n there. elim (cases_eq n number) [
      | inl same ↦ ap (λ k. is_some (slot_at slots k)) same ∙ sym (same_some entries slots was.matched number) ∙ stands
      | inr differs ↦ was.held n (noted_before n number idle.items (sym (ap (has n) is) ∙ there) differs)
    ];
  }

-- slots and entries that have lost the item of a number
module _ {T : Type 0} (entries rest : List (T × ℕ)) (slots later : List (Option Slot)) (free : List ℕ) (space : ℕ)
    (idle : Listing) (was : IsPool entries slots free space idle) (number : ℕ) (matched : AreMatched rest later)
    (items : items_of rest later ≡ slice_set (items_of entries slots) number None) where
  pub same_length : length later ≡ length slots
  same_length = sym (length-items_of rest later) ∙ ap length items ∙ length-set (items_of entries slots) number None
      ∙ length-items_of entries slots

  slot_left : (n : ℕ) → is_some (slot_at later n) ≡ is_some (cond (eqb n number) None (item_at
      (items_of entries slots) n))
  slot_left n = sym (same_some rest later matched n) ∙ ap (λ is. is_some (item_at is n)) items
      ∙ ap is_some (at_set_none (items_of entries slots) number n)

  slot_here : is_some (slot_at later number) ≡ false
  slot_here = slot_left number
      ∙ ap (λ b. is_some (cond b None (item_at (items_of entries slots) number))) (eq-eqb number number refl)

  slot_there : (n : ℕ) → n ≢ number → is_some (slot_at later n) ≡ is_some (slot_at slots n)
  slot_there n differs = slot_left n
      ∙ ap (λ b. is_some (cond b None (item_at (items_of entries slots) n))) (ne_eqb n number differs)
      ∙ same_some entries slots was.matched n

  none_of : (slot : Option Slot) → is_some slot ≡ false → slot ≡ None
  none_of None is = refl
  none_of (Some slot) is = absurd (false≢true (sym is))

  vacant_kept : (n : ℕ) → slot_at slots n ≡ None → slot_at later n ≡ None
  vacant_kept n none = elim (cases_eq n number) [
    | inl same ↦ none_of (slot_at later n) (ap (λ k. is_some (slot_at later k)) same ∙ slot_here)
    | inr differs ↦ none_of (slot_at later n) (slot_there n differs ∙ ap is_some none)
  ]

  -- the number had none
  pub unchanged : length rest + 0 ≡ length entries → is_some (item_at (items_of entries slots) number) ≡ false
      → IsPool rest later free space idle
  unchanged count absent = record {
    matched = matched;
    free = record {
      vacant = λ n there. vacant_kept n (was.free.vacant n there);
      within = λ n there. let inside = was.free.within n there in omega (arith, same_length);
      apart = was.free.apart;
    };
    count = omega (arith, was.count, count, same_length);
    spacious = omega (arith, was.spacious, same_length);
    roomy = omega (arith, was.roomy, same_length);
    held = λ n there. elim (cases_eq n number) [
      | inl same ↦ absurd (false≢true (sym absent ∙ same_some entries slots was.matched number
          ∙ ap (λ k. is_some (slot_at slots k)) (sym same) ∙ was.held n there))
      | inr differs ↦ slot_there n differs ∙ was.held n there
    ];
  }

  -- the number had one, and is freed
  pub freed : (more : List ℕ) (roomier : ℕ) (left : Listing) → length rest + 1 ≡ length entries
      → is_some (item_at (items_of entries slots) number) ≡ true → more ≡ free ++ number ∷ [] → roomier ≡ space
      → left.room ≡ idle.room → left.items ≡ without number idle.items → IsPool rest later more roomier left
  freed more roomier left count present more_is roomier_is room left_is =
      let here : is_some (slot_at slots number) ≡ true =
      sym (same_some entries slots was.matched number) ∙ present in
      let absent : has number free ≡ false = none_free (has number free) refl here in
      record {
        matched = matched;
        free = subst (λ (numbers : List ℕ). AreFree later numbers) (sym more_is) (freed_free slots later free number
            was.free same_length (within_here here) (none_of (slot_at later number) slot_here) vacant_kept absent);
        count = omega (arith, was.count, count, same_length, ap length more_is, length-append free (number ∷ []));
        spacious = omega (arith, was.spacious, same_length);
        roomy = omega (arith, was.roomy, same_length);
        held = λ n there.
            let before = kept_without n number idle.items (sym (ap (has n) left_is) ∙ there) in
            slot_there n before.0 ∙ was.held n before.1;
      }
    where
      none_free : (b : Bool) → has number free ≡ b → is_some (slot_at slots number) ≡ true → has number free ≡ false
      none_free false is here = is
      none_free true is here = absurd (false≢true (sym (ap is_some (was.free.vacant number is)) ∙ here))

      within_here : is_some (slot_at slots number) ≡ true → number < length slots
      within_here here = by (slot_at slots number) refl here
        where
          by : (slot : Option Slot) → slot_at slots number ≡ slot → is_some slot ≡ true → number < length slots
          by None at some = absurd (false≢true some)
          by (Some slot) at some = within_some slots number slot at

  -- the call's result tells whether the number had one
  pub was_some : (r : Option T) → r ≡ option_map (λ item. item.0) (item_at (items_of entries slots) number)
      → is_some (item_at (items_of entries slots) number) ≡ is_some r
  was_some r is = sym (some_map (λ item. item.0) (item_at (items_of entries slots) number)) ∙ sym (ap is_some is)

  pub takes_out : (left : List ℕ) → left ≡ without number idle.items
      → TakesOut {T = T} (record { items = items_of entries slots; idle = idle.items })
      (record { items = items_of rest later; idle = left }) number
  takes_out left left_is = record {
    items = items;
    others = λ n. ap (λ is. item_at is n) items ∙ at_set_none (items_of entries slots) number n;
    idle = left_is;
  }

  -- a number without an item isn't noted
  pub not_noted : is_some (item_at (items_of entries slots) number) ≡ false → idle.items ≡ without number idle.items
  not_noted absent = sym (without_absent number idle.items (by (has number idle.items) refl))
    where
      by : (b : Bool) → has number idle.items ≡ b → has number idle.items ≡ false
      by false is = is
      by true is = absurd (false≢true (sym absent ∙ same_some entries slots was.matched number ∙ was.held number is))
