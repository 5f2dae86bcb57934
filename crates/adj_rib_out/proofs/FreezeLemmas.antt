-- A batch begins.
use Rattle.std.proofs.Common.{◌≡◌, ◌↔◌, ℕ, ◌<◌, Bool, true, false, List, [], ◌∷◌}
use Rattle.std.proofs.Common.{cond, Option, Some, None, length, refl, sym, ap, subst, ◌∙◌}
use Rattle.std.specs.Prelude.{is_some, IsTrue, nat_lt, ◌||◌, ◌&&◌, not}
use Rattle.std.proofs.lemmas.Bool.{false≢true, eq-eqb, ne_eqb}
use Rattle.linked_pending.specs.Links.{link}
use Rattle.linked_pending.specs.Listing.{AreApart}
use Rattle.route_values.specs.declared.key.Key.{Key}
use Rattle.slot_batches.specs.Left.{slots_of, value_left, item_of}
use Rattle.slot_batches.specs.Slots.{Opens, owes, flag_of, is_owed}
use Rattle.slot_batches.specs.declared.slots.Item.{Item as SlotItem}
use Rattle.adj_rib_out.specs.State.{Item, shown_at}
use Rattle.adj_rib_out.specs.Batch.{IsOwed, attrs_said, item_at, is_left, AreOnce, AreTogether, AreNumberedAlike}
use Rattle.adj_rib_out.specs.Places.{key_at, place_of}
use Rattle.adj_rib_out.specs.Kept.{Parts, Values, IsTable, IsNumber, IsLeft, AreLeft, seen, attrs_under, parity}
use Rattle.adj_rib_out.specs.Kept.{items_seen}
use Rattle.adj_rib_out.proofs.RowLemmas.{found, stands, within, some_is, none_some}
use Rattle.adj_rib_out.proofs.PartLemmas.{item_seen, none_seen, is_left_item, left_slot, left_by}
use Rattle.adj_rib_out.proofs.NumberLemmas.{not_above}
use Rattle.adj_rib_out.proofs.PassLemmas.{said_attrs}
use Rattle.adj_rib_out.proofs.GroupLemmas.{once_seen, together_seen, alike, numbered}
use Rattle.adj_rib_out.proofs.OwedLemmas.{not_owed, owed_then, then_owed, now_number, shown_here}

pub cond_some : (test : Bool) (now number : ℕ) → cond test (Some now) None ≡ Some number → (test ≡ true) ×
    (now ≡ number)
cond_some true now number is = (refl, some_is is)
cond_some false now number is = absurd (none_some is)

-- a slot that has what was sent and no value isn't owed
pub idle_owes : (a b : ℕ) (again : Bool) → a ≡ b → b < 2 → owes a b again ≡ false
idle_owes a b again same below = ap (λ (t : Bool). not t || (nat_lt 1 b && again)) (eq-eqb a b same)
    ∙ ap (λ (t : Bool). t && again) (not_above b below)

-- items are left one by one as they are by their slots
module _ (keys : List (Option Key)) (values : Values) where
  left_from : (items : List SlotItem) → AreApart (slots_of items)
      → ((slot number : ℕ) → value_left items slot ≡ Some number → IsLeft keys values (item_of slot number))
      → AreLeft keys values items
  left_from [] apart each = tt
  left_from (item ∷ rest) apart each = (
    each item.slot item.value (ap (λ (t : Bool). cond t (Some item.value) (value_left rest item.slot))
        (eq-eqb item.slot item.slot refl)),
    left_from rest apart.1 (λ slot number is. each slot number (
        ap (λ (t : Bool). cond t (Some item.value) (value_left rest slot)) (ne_eqb slot item.slot (λ same.
        false≢true (sym apart.0 ∙ left_slot rest item.slot ∙ ap is_some
        (subst (λ (s : ℕ). value_left rest s ≡ Some number) same is)))) ∙ is)),
  )

module _ (p : Parts) (table : IsTable p) (left : List SlotItem) (opens : Opens p.slots left) where
  pub below_nows : (place : ℕ) (key : Key) → key_at p.keys place ≡ Some key → place < length p.slots.nows
  below_nows place key here = subst (λ n. place < n) (sym table.nows_length) (within p.keys key place here)

  -- what is left of a slot is owed, and of a key
  left_vacant : (slot number : ℕ) → key_at p.keys slot ≡ None → slot < length p.slots.nows
      → value_left left slot ≡ Some number → ⊥
  left_vacant slot number none below is =
      let owed = cond_some (is_owed p.slots slot) (link p.slots.nows slot) number (sym (opens.owed slot below) ∙ is) in
      let vacant = table.vacant slot none in
      false≢true (sym (idle_owes (link p.slots.sents slot) (link p.slots.nows slot)
      (flag_of p.slots.even_again p.slots.odd_again (link p.slots.nows slot)) vacant.sent vacant.now) ∙ owed.0)

  left_taken : (slot number : ℕ) (key : Key) → key_at p.keys slot ≡ Some key → value_left left slot ≡ Some number
      → IsLeft p.keys p.values (item_of slot number)
  left_taken slot number key here is =
      let owed = cond_some (is_owed p.slots slot) (link p.slots.nows slot) number
      (sym (opens.owed slot (below_nows slot key here)) ∙ is) in
      record {
        key = key;
        stands = here;
        number = subst (IsNumber p.values (parity key)) owed.1
            (now_number p table key slot (stands p.keys key slot table.once here));
      }

  pub left_number : (slot number : ℕ) → value_left left slot ≡ Some number → IsLeft p.keys p.values
      (item_of slot number)
  left_number slot number is = elim (key_at p.keys slot) as (λ o. key_at p.keys slot ≡ o
      → IsLeft p.keys p.values (item_of slot number)) [
        | None ↦ λ none. absurd (left_vacant slot number none (opens.within slot
            (left_slot left slot ∙ ap is_some is)) is)
        | Some key ↦ λ here. left_taken slot number key here is
      ] refl

  pub all_left : AreLeft p.keys p.values left
  all_left = left_from p.keys p.values left opens.once left_number

  -- ---- what the batch says

  module _ (key : Key) where
    said_here : (place : ℕ) → place_of p.keys key ≡ Some place → item_at (items_seen p.keys p.values left) key
        ≡ left_by p.values key (cond (is_owed p.slots place) (Some (link p.slots.nows place)) None)
    said_here place here = item_seen p.keys table.once p.values key place here left all_left
        ∙ ap (left_by p.values key) (opens.owed place (below_nows place key (found p.keys key place here)))

    left_if : (owed : Bool) (number : ℕ) → is_some (left_by p.values key (cond owed (Some number) None)) ≡ owed
    left_if true number = refl
    left_if false number = refl

    left_here : (place : ℕ) → place_of p.keys key ≡ Some place
        → is_left (items_seen p.keys p.values left) key ≡ is_owed p.slots place
    left_here place here = is_left_item (items_seen p.keys p.values left) key ∙ ap is_some (said_here place here)
        ∙ left_if (is_owed p.slots place) (link p.slots.nows place)

    left_nowhere : place_of p.keys key ≡ None → is_left (items_seen p.keys p.values left) key ≡ false
    left_nowhere none = is_left_item (items_seen p.keys p.values left) key
        ∙ ap is_some (none_seen p.keys table.once p.values key none left all_left)

    pub owed_keys : IsTrue (is_left (items_seen p.keys p.values left) key) ↔ IsOwed (seen p) key
    owed_keys = elim (place_of p.keys key) as (λ o. place_of p.keys key ≡ o
        → IsTrue (is_left (items_seen p.keys p.values left) key) ↔ IsOwed (seen p) key) [
          | None ↦ λ none. (
            λ there. absurd (false≢true (sym (left_nowhere none) ∙ there)),
            λ owed. absurd (not_owed p table key none owed),
          )
          | Some place ↦ λ here. (
            λ there. owed_then p table key place here (sym (left_here place here) ∙ there),
            λ owed. left_here place here ∙ then_owed p table key place here owed,
          )
        ] refl

    said_by_item : (owed : Bool) (number : ℕ) (item : Item)
        → left_by p.values key (cond owed (Some number) None) ≡ Some item
        → attrs_said item.says ≡ attrs_under p.values number
    said_by_item true number item is = ap (λ (i : Item). attrs_said i.says) (sym (some_is is))
        ∙ said_attrs number (attrs_under p.values number)
    said_by_item false number item is = absurd (none_some is)

    pub said_shown : (item : Item) → item_at (items_seen p.keys p.values left) key ≡ Some item
        → attrs_said item.says ≡ shown_at (seen p) key
    said_shown item is = elim (place_of p.keys key) as (λ o. place_of p.keys key ≡ o
        → attrs_said item.says ≡ shown_at (seen p) key) [
          | None ↦ λ none. absurd (none_some (sym (none_seen p.keys table.once p.values key none left all_left) ∙ is))
          | Some place ↦ λ here. said_by_item (is_owed p.slots place) (link p.slots.nows place) item
              (sym (said_here place here) ∙ is) ∙ sym (shown_here p table key place here)
        ] refl

  -- ---- the order

  pub once_left : AreOnce (items_seen p.keys p.values left)
  once_left = once_seen p.values table.kept p.keys table.once left all_left opens.once

  pub together_left : AreTogether (items_seen p.keys p.values left)
  together_left = together_seen p.values table.kept p.keys table.once left all_left opens.together

  record IsSaid (key : Key) (item : Item) : Type 0 where
    pub number : ℕ
    pub is : numbered p.values key number ≡ item
    pub kept : IsNumber p.values (parity key) number

  said_if : (key : Key) (owed : Bool) (number : ℕ) (item : Item) → IsNumber p.values (parity key) number
      → left_by p.values key (cond owed (Some number) None) ≡ Some item → IsSaid key item
  said_if key true number item is said = record { number = number; is = some_is said; kept = is }
  said_if key false number item is said = absurd (none_some said)

  is_said : (key : Key) (item : Item) → item_at (items_seen p.keys p.values left) key ≡ Some item → IsSaid key item
  is_said key item is = elim (place_of p.keys key) as (λ o. place_of p.keys key ≡ o → IsSaid key item) [
    | None ↦ λ none. absurd (none_some (sym (none_seen p.keys table.once p.values key none left all_left) ∙ is))
    | Some place ↦ λ here. said_if key (is_owed p.slots place) (link p.slots.nows place) item
        (now_number p table key place here) (sym (said_here key place here) ∙ is)
  ] refl

  pub alike_left : (key other : Key) (a b : Item) → item_at (items_seen p.keys p.values left) key ≡ Some a
      → item_at (items_seen p.keys p.values left) other ≡ Some b → AreNumberedAlike a b
  alike_left key other a b at_a at_b =
      let said_a = is_said key a at_a in
      let said_b = is_said other b at_b in
      subst (λ (i : Item). AreNumberedAlike i b) said_a.is
      (subst (λ (i : Item). AreNumberedAlike (numbered p.values key said_a.number) i) said_b.is
      (alike p.values table.kept key other said_a.number said_b.number said_a.kept said_b.kept))
