-- Items by their entries.
use Rattle.std.proofs.Common.{◌≡◌, ℕ, Bool, true, false, Option, Some, None, IfSome, IfNone, is_some, List, refl, sym}
use Rattle.std.proofs.Common.{ap, ◌∙◌}
use Rattle.std.proofs.lemmas.Bool.{false≢true}
use Rattle.std.proofs.lemmas.Option.{none-some, same_Some}
use Rattle.std.proofs.lemmas.Map.Entries.{place_from_lookup, lookup_from_place}
use Rattle.std.specs.Prelude.{slice_get}
use Rattle.std.specs.Cmp.{IsEquivalence}
use Rattle.std.specs.List.{IsDistinct}
use Rattle.std.specs.Map.{keys_of, lookup}
use Rattle.std.specs.Option.{option_map}
use Rattle.linked_pending.specs.Listing.{has}
use Rattle.value_pool.specs.declared.slots.Slot.{Slot}
use Rattle.value_pool.specs.Pool.{item_at, passes, IsSound}
use Rattle.value_pool.specs.Slots.{slot_at, place_in, number_in, item_of, items_of, AreMatched}
use Rattle.value_pool.proofs.ListLemmas.{item_at-items_of}

pub some_map : {A B : Type 0} (f : A → B) (o : Option A) → is_some (option_map f o) ≡ is_some o
some_map f None = refl
some_map f (Some x) = refl

module _ {T : Type 0} (entries : List (T × ℕ)) (slots : List (Option Slot)) (matched : AreMatched entries slots) where
  entry_at : (n : ℕ) (slot : Slot) (x : T × ℕ) (e : Option (T × ℕ)) → slice_get entries slot.place ≡ e
      → number_in (slice_get entries slot.place) ≡ Some n → item_of (slice_get entries) (Some slot) ≡ Some x
      → (place : ℕ) × (slice_get entries place ≡ Some (x.0, n))
  entry_at n slot x None at named is =
      absurd (none-some n (sym (ap number_in at) ∙ named))
  entry_at n slot x (Some e) at named is =
      let value : (e.0, slot.tag) ≡ x = same_Some (e.0, slot.tag) x
      (sym (ap (option_map (λ (entry : T × ℕ). (entry.0, slot.tag))) at) ∙ is) in
      let number : e.1 ≡ n = same_Some e.1 n (sym (ap number_in at) ∙ named) in
      (slot.place, at ∙ (λ i. Some ((value i).0, number i)))

  entry_in : (n : ℕ) (slot : Option Slot) (x : T × ℕ) → slot_at slots n ≡ slot
      → item_of (slice_get entries) slot ≡ Some x → (place : ℕ) × (slice_get entries place ≡ Some (x.0, n))
  entry_in n None x at is = absurd (none-some x is)
  entry_in n (Some slot) x at is =
      entry_at n slot x (slice_get entries slot.place) refl (matched.placed n slot.place (ap place_in at)) is

  -- an item's value has an entry with the number
  pub entry_of : (n : ℕ) (x : T × ℕ) → item_at (items_of entries slots) n ≡ Some x
      → (place : ℕ) × (slice_get entries place ≡ Some (x.0, n))
  entry_of n x is = entry_in n (slot_at slots n) x refl (sym (item_at-items_of entries slots n) ∙ is)

  item_in : (place n : ℕ) (value : T) (slot : Option Slot) → slot_at slots n ≡ slot
      → slice_get entries place ≡ Some (value, n) → (tag : ℕ) × (item_of (slice_get entries) slot ≡ Some (value, tag))
  item_in place n value None at is =
      absurd (none-some place (sym (ap place_in at) ∙ matched.numbered n place (ap number_in is)))
  item_in place n value (Some slot) at is =
      let same : slot.place ≡ place = same_Some slot.place place
      (sym (ap place_in at) ∙ matched.numbered n place (ap number_in is)) in
      (slot.tag, ap (option_map (λ (entry : T × ℕ). (entry.0, slot.tag))) (ap (slice_get entries) same ∙ is))

  -- an entry's number has an item with the value
  pub item_with : (place n : ℕ) (value : T) → slice_get entries place ≡ Some (value, n)
      → (tag : ℕ) × (item_at (items_of entries slots) n ≡ Some (value, tag))
  item_with place n value is =
      let item = item_in place n value (slot_at slots n) refl is in
      (item.0, item_at-items_of entries slots n ∙ item.1)

  entry_held : (n : ℕ) (slot : Slot) (e : Option (T × ℕ)) → slice_get entries slot.place ≡ e
      → number_in (slice_get entries slot.place) ≡ Some n
      → option_map (λ item. item.1) (item_of (slice_get entries) (Some slot)) ≡ Some slot.tag
  entry_held n slot None at named = absurd (none-some n (sym (ap number_in at) ∙ named))
  entry_held n slot (Some e) at named =
      ap (λ e. option_map (λ (item : T × ℕ). item.1) (option_map (λ (entry : T × ℕ). (entry.0, slot.tag)) e)) at

  tag_in : (n : ℕ) (slot : Option Slot) → slot_at slots n ≡ slot
      → option_map (λ item. item.1) (item_of (slice_get entries) slot) ≡ option_map (λ s. s.tag) slot
  tag_in n None at = refl
  tag_in n (Some slot) at =
      entry_held n slot (slice_get entries slot.place) refl (matched.placed n slot.place (ap place_in at))

  -- a slot has its item's tag
  pub tag_of : (n : ℕ) → option_map (λ item. item.1) (item_at (items_of entries slots) n)
      ≡ option_map (λ s. s.tag) (slot_at slots n)
  tag_of n = ap (option_map (λ (item : T × ℕ). item.1)) (item_at-items_of entries slots n) ∙ tag_in n
      (slot_at slots n) refl

  -- a number has an item where it has a slot
  pub same_some : (n : ℕ) → is_some (item_at (items_of entries slots) n) ≡ is_some (slot_at slots n)
  same_some n = sym (some_map (λ item. item.1) (item_at (items_of entries slots) n)) ∙ ap is_some (tag_of n)
      ∙ some_map (λ s. s.tag) (slot_at slots n)

  -- a look-up by a test finds the number of an item that passes
  pub found : (test : T → Bool) (r : Option ℕ) → r ≡ lookup test entries
      → IfSome r (λ number. passes test (item_at (items_of entries slots) number) ≡ true)
  found test None is = tt
  found test (Some n) is =
      let at = place_from_lookup test entries n (sym is) in
      ap (passes test) (item_with at.0 n at.1 at.2).1 ∙ at.3

  passes_some : (test : T → Bool) (item : Option (T × ℕ)) → passes test item ≡ true
      → (x : T × ℕ) × (item ≡ Some x) × (test x.0 ≡ true)
  passes_some test None passed = absurd (false≢true passed)
  passes_some test (Some x) passed = (x, refl, passed)

  -- where equal values stand once, it is the only one
  pub only : (eq : T → T → Bool) → IsEquivalence eq → IsDistinct eq (keys_of entries) → (test : T → Bool)
      → ((x y : T) → test x ≡ true → test y ≡ eq x y) → (r : Option ℕ) → r ≡ lookup test entries
      → (n : ℕ) → passes test (item_at (items_of entries slots) n) ≡ true → r ≡ Some n
  only eq laws distinct test alike r is n passed =
      let item = passes_some test (item_at (items_of entries slots) n) passed in
      let entry = entry_of n item.0 item.1 in
      is ∙ ap (λ t. lookup t entries) (λ i y. alike item.0.0 y item.2 i)
      ∙ lookup_from_place laws entries entry.0 item.0.0 n distinct entry.1

  -- where none is found no item passes
  pub none_passes : (test : T → Bool) (r : Option ℕ)
      → ((n : ℕ) → passes test (item_at (items_of entries slots) n) ≡ true → r ≡ Some n)
      → IfNone r ((n : ℕ) → passes test (item_at (items_of entries slots) n) ≡ false)
  none_passes test (Some m) all = tt
  none_passes test None all = λ n. by n (passes test (item_at (items_of entries slots) n)) refl
    where
      by : (n : ℕ) (b : Bool) → passes test (item_at (items_of entries slots) n) ≡ b
          → passes test (item_at (items_of entries slots) n) ≡ false
      by n false is = is
      by n true is = absurd (none-some n (all n is))

  -- a value that no item equals isn't found
  pub not_found : (test : T → Bool) → ((n : ℕ) → passes test (item_at (items_of entries slots) n) ≡ false)
      → lookup test entries ≡ None
  not_found test none = by (lookup test entries) refl
    where
      by : (r : Option ℕ) → lookup test entries ≡ r → lookup test entries ≡ None
      by None is = is
      by (Some n) is =
          let at = place_from_lookup test entries n is in
          absurd (false≢true (sym (none n) ∙ ap (passes test) (item_with at.0 n at.1 at.2).1 ∙ at.3))

  -- no two items are equal
  pub once : (eq : T → T → Bool) → IsEquivalence eq → IsDistinct eq (keys_of entries) → (a b : ℕ) (x y : T × ℕ)
      → item_at (items_of entries slots) a ≡ Some x → item_at (items_of entries slots) b ≡ Some y
      → eq x.0 y.0 ≡ true → a ≡ b
  once eq laws distinct a b x y first second same =
      let entry = entry_of a x first in
      let other = entry_of b y second in
      same_Some a b (sym (lookup_from_place laws entries entry.0 x.0 a distinct entry.1)
      ∙ ap (λ t. lookup t entries) (λ i z. laws.congr x.0 y.0 z same i)
      ∙ lookup_from_place laws entries other.0 y.0 b distinct other.1)

  pub sound : (eq : T → T → Bool) → IsEquivalence eq → IsDistinct eq (keys_of entries) → (idle : List ℕ)
      → ((number : ℕ) → has number idle ≡ true → is_some (slot_at slots number) ≡ true)
      → IsSound eq (record { items = items_of entries slots; idle = idle })
  sound eq laws distinct idle held = record {
    once = once eq laws distinct;
    held = λ number there. same_some number ∙ held number there;
  }
