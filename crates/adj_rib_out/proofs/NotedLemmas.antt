-- Which keys are noted, as the calls of a table change what keeps them.
use Rattle.std.proofs.Common.{◌≡◌, ◌==◌, ℕ, ◌<◌, Bool, true, false, List, [], ◌∷◌, cond}
use Rattle.std.proofs.Common.{Option, Some, None, length, refl, sym, ap, ap₂, subst, ◌∙◌, drop}
use Rattle.std.specs.Prelude.{is_some, nat_lt, ◌||◌, slice_set}
use Rattle.std.proofs.lemmas.Bool.{false≢true, eqb-true, eq-eqb}
use Rattle.linked_pending.specs.Links.{link}
use Rattle.linked_pending.specs.Listing.{has, without}
use Rattle.linked_pending.proofs.ListingLemmas.{has-append, has-without}
use Rattle.value_pool.specs.Pool.{noted}
use Rattle.route_values.specs.declared.key.Key.{Key}
use Rattle.slot_batches.specs.Left.{value_left}
use Rattle.slot_batches.specs.declared.slots.Item.{Item as SlotItem}
use Rattle.adj_rib_out.specs.declared.chosen.Chosen.{Chosen}
use Rattle.adj_rib_out.specs.Counts.{KeysNoted, is_held}
use Rattle.adj_rib_out.specs.Kept.{Parts, chosen_at, keeps, has_value}
use Rattle.adj_rib_out.specs.Places.{key_at}
use Rattle.adj_rib_out.proofs.KeepLemmas.{set_at}

-- ---- lists of places

or_false : (a b : Bool) → b ≡ true → (a || b) ≡ true
or_false true b is = refl
or_false false b is = is

pub has_noted : (item new : ℕ) (items : List ℕ) → has item items ≡ true → has item (noted new items) ≡ true
has_noted item new items there = has-append item (without new items) (new ∷ []) ∙ (elim (item == new) as (λ t.
    (item == new) ≡ t → (has item (without new items) || (t || false)) ≡ true) [
      | true ↦ λ same. or_false (has item (without new items)) true refl
      | false ↦ λ differs. ap (λ (b : Bool). b || false) (has-without item new items
          ∙ ap (λ (t : Bool). cond t false (has item items)) differs ∙ there)
    ] refl)

pub new_noted : (new : ℕ) (items : List ℕ) → has new (noted new items) ≡ true
new_noted new items = has-append new (without new items) (new ∷ []) ∙ or_false (has new (without new items))
    ((new == new) || false) (ap (λ (t : Bool). t || false) (eq-eqb new new refl))

still_noted : (item gone : ℕ) (items : List ℕ) → (item == gone) ≡ false → has item items ≡ true
    → has item (without gone items) ≡ true
still_noted item gone items differs there = has-without item gone items
    ∙ ap (λ (t : Bool). cond t false (has item items)) differs ∙ there

-- a place that is noted unless something holds
noted_unless : (kept : Bool) (item new : ℕ) (items : List ℕ) → has item items ≡ true
    → has item (cond kept items (noted new items)) ≡ true
noted_unless true item new items there = there
noted_unless false item new items there = has_noted item new items there

new_unless : (kept : Bool) (new : ℕ) (items : List ℕ) → kept ≡ false
    → has new (cond kept items (noted new items)) ≡ true
new_unless true new items is = absurd (false≢true (sym is))
new_unless false new items is = new_noted new items

-- ---- tests of which none holds

first_false : (a b : Bool) → (a || b) ≡ false → a ≡ false
first_false true b is = is
first_false false b is = refl

second_false : (a b : Bool) → (a || b) ≡ false → b ≡ false
second_false true b is = absurd (false≢true (sym is))
second_false false b is = is

none_of : (o : Option Chosen) → is_some o ≡ false → o ≡ None
none_of None is = refl
none_of (Some c) is = absurd (false≢true (sym is))

no_value : (o : Option ℕ) → is_some o ≡ false → has_value o ≡ false
no_value None is = refl
no_value (Some n) is = absurd (false≢true (sym is))

module _ (p : Parts) (places : List ℕ) (known : KeysNoted p places) where
  -- ---- a key is given a route, or loses it

  -- whether what was sent of a slot keeps its key, or what is left
  abbrev pub is_busy : ℕ → Bool
  is_busy place = nat_lt 1 (link p.slots.sents place) || is_some (value_left p.slots.left place)

  module _ (place : ℕ) (within : place < length p.routes) (r : Option Chosen) (nows : List ℕ) where
    abbrev pub given : Parts
    given = record p { routes = slice_set p.routes place r; slots = record p.slots { nows = nows } }

    held_is : (i : ℕ) → is_held given i ≡ (is_some (cond (i == place) r (chosen_at p.routes i)) || is_busy i)
    held_is i = ap (λ (o : Option Chosen). is_some o || is_busy i) (set_at p.routes place i r None within)

    pub set_noted : is_some r ≡ true → KeysNoted given (without place places)
    set_noted some i key here lone = elim (i == place) as (λ t. (i == place) ≡ t
        → (is_some (cond t r (chosen_at p.routes i)) || is_busy i) ≡ false → has i (without place places) ≡ true) [
          | true ↦ λ same held. absurd (false≢true (sym (first_false (is_some r) (is_busy i) held) ∙ some))
          | false ↦ λ differs held. still_noted i place places differs (known i key here held)
        ] refl (sym (held_is i) ∙ lone)

    pub unset_noted : (busy : Bool) → busy ≡ is_busy place → KeysNoted given (cond busy places (noted place places))
    unset_noted busy is i key here lone = elim (i == place) as (λ t. (i == place) ≡ t
        → (is_some (cond t r (chosen_at p.routes i)) || is_busy i) ≡ false
        → has i (cond busy places (noted place places)) ≡ true) [
          | true ↦ λ same held. subst (λ (j : ℕ). has j (cond busy places (noted place places)) ≡ true)
              (sym (eqb-true i place same)) (new_unless busy place places
              (is ∙ ap is_busy (sym (eqb-true i place same)) ∙ second_false (is_some r) (is_busy i) held))
          | false ↦ λ differs held. noted_unless busy i place places (known i key here held)
        ] refl (sym (held_is i) ∙ lone)

  -- ---- an item of the open batch is passed

  module _ (item : SlotItem) (rest : List SlotItem) (is : p.slots.left ≡ item ∷ rest)
      (within : item.slot < length p.slots.sents) where
    abbrev pub passed : Parts
    passed = record p {
      slots = record p.slots {
        sents = slice_set p.slots.sents item.slot item.value;
        left = drop 1 p.slots.left;
      };
    }

    elsewhere : (i : ℕ) → (i == item.slot) ≡ false → is_held passed i ≡ is_held p i
    elsewhere i differs = ap₂ (λ (n : ℕ) (o : Option ℕ). is_some (chosen_at p.routes i) || (nat_lt 1 n || is_some o))
        (set_at p.slots.sents item.slot i item.value 0 within
        ∙ ap (λ (t : Bool). cond t item.value (link p.slots.sents i)) differs)
        (ap (λ (l : List SlotItem). value_left (drop 1 l) i) is
        ∙ sym (ap (λ (l : List SlotItem). value_left l i) is
        ∙ ap (λ (t : Bool). cond t (Some item.value) (value_left rest i)) differs))

    lone_stands : (route sent : Bool) (o : Option ℕ) → (route || (sent || is_some o)) ≡ false
        → (route || (sent || has_value o)) ≡ false
    lone_stands route sent o held = ap₂ (λ (a b : Bool). a || b) (first_false route (sent || is_some o) held)
        (ap₂ (λ (a b : Bool). a || b)
        (first_false sent (is_some o) (second_false route (sent || is_some o) held))
        (no_value o (second_false sent (is_some o) (second_false route (sent || is_some o) held))))

    pub passed_noted : (stands : Bool)
        → stands ≡ (is_some (chosen_at p.routes item.slot) || keeps passed.slots item.slot)
        → KeysNoted passed (cond stands places (noted item.slot places))
    passed_noted stands stands_is i key here lone = elim (i == item.slot) as (λ t. (i == item.slot) ≡ t
        → has i (cond stands places (noted item.slot places)) ≡ true) [
          | true ↦ λ same. subst (λ (j : ℕ). has j (cond stands places (noted item.slot places)) ≡ true)
              (sym (eqb-true i item.slot same)) (new_unless stands item.slot places (stands_is
              ∙ lone_stands (is_some (chosen_at p.routes item.slot)) (nat_lt 1 (link passed.slots.sents item.slot))
              (value_left passed.slots.left item.slot)
              (subst (λ (j : ℕ). is_held passed j ≡ false) (eqb-true i item.slot same) lone)))
          | false ↦ λ differs. noted_unless stands i item.slot places
              (known i key here (sym (elsewhere i differs) ∙ lone))
        ] refl

  -- ---- routes and what was sent stay

  module _ (q : Parts) (keys : q.keys ≡ p.keys) (routes : q.routes ≡ p.routes) (sents : q.slots.sents ≡ p.slots.sents)
    where
      -- nothing was left, and now something may be
      pub frozen_noted : p.slots.left ≡ [] → KeysNoted q places
      frozen_noted none i key here lone = known i key (subst (λ (ks : List (Option Key)). key_at ks i ≡ Some key)
          keys here)
          (ap₂ (λ (a b : Bool). a || b)
          (ap (λ (rs : List (Option Chosen)). is_some (chosen_at rs i)) (sym routes)
          ∙ first_false (is_some (chosen_at q.routes i)) _ lone)
          (ap₂ (λ (a b : Bool). a || b)
          (ap (λ (ns : List ℕ). nat_lt 1 (link ns i)) (sym sents)
          ∙ first_false (nat_lt 1 (link q.slots.sents i)) (is_some (value_left q.slots.left i))
          (second_false (is_some (chosen_at q.routes i)) _ lone))
          (ap (λ (l : List SlotItem). is_some (value_left l i)) none)))

      held_still : q.slots.left ≡ p.slots.left → (i : ℕ) → is_held q i ≡ is_held p i
      held_still left i = ap₂ (λ (a b : Bool). a || b)
          (ap (λ (rs : List (Option Chosen)). is_some (chosen_at rs i)) routes)
          (ap₂ (λ (ns : List ℕ) (l : List SlotItem). nat_lt 1 (link ns i) || is_some (value_left l i)) sents left)

      pub same_noted : q.slots.left ≡ p.slots.left → KeysNoted q places
      same_noted left i key here lone = known i key
          (subst (λ (ks : List (Option Key)). key_at ks i ≡ Some key) keys here) (sym (held_still left i) ∙ lone)

-- each key without a route is noted
pub lone_noted : (p : Parts) (places : List ℕ) → ((place : ℕ) (key : Key) → key_at p.keys place ≡ Some key
    → chosen_at p.routes place ≡ None → has place places ≡ true) → KeysNoted p places
lone_noted p places all i key here lone =
    all i key here (none_of (chosen_at p.routes i) (first_false (is_some (chosen_at p.routes i)) _ lone))
