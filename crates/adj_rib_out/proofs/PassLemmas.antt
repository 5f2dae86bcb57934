-- The first item of the open batch is passed, or its first marker.
use Rattle.std.proofs.Common.{◌≡◌, ◌≢◌, ◌==◌, ℕ, ◌+◌, ◌<◌, ◌≤◌, Bool, true, false, List, [], ◌∷◌, cond}
use Rattle.std.proofs.Common.{Option, Some, None, length, refl, sym, ap, ap₂, subst, ◌∙◌, arith, drop}
use Rattle.std.specs.Prelude.{MatchOption, slice_get, is_some, not, slice_set, ◌||◌, ◌&&◌}
use Rattle.std.proofs.lemmas.Bool.{false≢true, ne_eqb, eqb-true}
use Rattle.std.proofs.lemmas.List.{length-set}
use Rattle.linked_pending.specs.Links.{link}
use Rattle.linked_pending.specs.Listing.{AreApart}
use Rattle.route_values.specs.declared.attrs.WireAttrs.{WireAttrs}
use Rattle.route_values.specs.declared.key.Key.{Key}
use Rattle.route_values.specs.Key.{same_key}
use Rattle.slot_batches.specs.Left.{slots_of, value_left, AreTogether}
use Rattle.slot_batches.specs.Left.{values_of as values_left}
use Rattle.slot_batches.specs.Slots.{Slots}
use Rattle.slot_batches.specs.declared.slots.Item.{Item as SlotItem}
use Rattle.adj_rib_out.specs.State.{State, Item, told_at}
use Rattle.adj_rib_out.specs.Batch.{attrs_said}
use Rattle.adj_rib_out.specs.Calls.{Passes, PassesDue}
use Rattle.adj_rib_out.specs.Nodes.{nodes}
use Rattle.adj_rib_out.specs.Places.{key_at}
use Rattle.adj_rib_out.specs.Kept.{Parts, Values, IsTable, IsNumber, AreLeft, seen, route_by, told_by, items_seen}
use Rattle.adj_rib_out.specs.Kept.{item_for, says_by, attrs_under, markers_of, parity}
use Rattle.adj_rib_out.proofs.RowLemmas.{stands, within, changed, some_is, none_some}
use Rattle.adj_rib_out.proofs.PartLemmas.{told_seen, left_slot}
use Rattle.adj_rib_out.proofs.KeepLemmas.{set_at, ready_kept, routes_kept, told_kept}
use Rattle.adj_rib_out.proofs.NodeLemmas.{count_changed, count_fewer, one}
use Rattle.adj_rib_out.proofs.SeenNodeLemmas.{node_by, said_by, nodes_seen}

pub cons_nil : {X : Type 0} {x : X} {xs : List X} → x ∷ xs ≡ [] → ⊥
cons_nil {X} {x} {xs} same = cc

pub said_attrs : (n : ℕ) (attrs : Option WireAttrs) → attrs_said (says_by n attrs) ≡ attrs
said_attrs n None = refl
said_attrs n (Some a) = refl

attrs_if : (values : Values) (test : Bool) (m n : ℕ)
    → attrs_under values (cond test m n) ≡ cond test (attrs_under values m) (attrs_under values n)
attrs_if values true m n = refl
attrs_if values false m n = refl

was_node : (route told said old_told old_said : Bool) → (told ≡ true → (old_told || old_said) ≡ true)
    → (said ≡ true → old_said ≡ true) → (route || (told || said)) ≡ true → (route || (old_told || old_said)) ≡ true
was_node true told said old_told old_said if_told if_said is = refl
was_node false true said old_told old_said if_told if_said is = if_told refl
was_node false false true true old_said if_told if_said is = refl
was_node false false true false old_said if_told if_said is = if_said refl
was_node false false false old_told old_said if_told if_said is = absurd (cc)

or_true : (a b : Bool) → b ≡ true → (a || b) ≡ true
or_true true b is = refl
or_true false b is = is

unsaid : (values : Values) (o : Option ℕ) → is_some o ≡ false → said_by values o ≡ false
unsaid values None is = refl
unsaid values (Some n) is = absurd (false≢true (sym is))

one_went : (before after : Bool) → (after ≡ true → before ≡ true)
    → one before ≡ one after + cond (before && not after) 1 0
one_went true true still = omega arith
one_went true false still = omega arith
one_went false true still = absurd (false≢true (still refl))
one_went false false still = omega arith

module _ (p : Parts) (table : IsTable p) (item : SlotItem) (rest : List SlotItem) (is : p.slots.left ≡ item ∷ rest)
  where
    left_is : AreLeft p.keys p.values (item ∷ rest)
    left_is = subst (AreLeft p.keys p.values) is table.left

    once_is : AreApart (slots_of (item ∷ rest))
    once_is = subst (λ (l : List SlotItem). AreApart (slots_of l)) is table.left_once

    together_is : AreTogether (values_left (item ∷ rest))
    together_is = subst (λ (l : List SlotItem). AreTogether (values_left l)) is table.left_together

    -- the table behind the item
    abbrev pub passed : Parts
    passed = record p {
      slots = record p.slots {
        sents = slice_set p.slots.sents item.slot item.value;
        left = drop 1 p.slots.left;
      };
    }

    rest_is : passed.slots.left ≡ rest
    rest_is = ap (drop 1) is

    abbrev key : Key
    key = left_is.0.key

    within_sents : item.slot < length p.slots.sents
    within_sents = subst (λ n. item.slot < n) (sym table.sents_length) (within p.keys key item.slot left_is.0.stands)

    sent_is : (i : ℕ) → link passed.slots.sents i ≡ cond (i == item.slot) item.value (link p.slots.sents i)
    sent_is i = set_at p.slots.sents item.slot i item.value 0 within_sents

    elsewhere : (i : ℕ) → key_at p.keys i ≡ None → (i == item.slot) ≡ false
    elsewhere i none = ne_eqb i item.slot (λ same. none_some (sym none
        ∙ subst (λ (j : ℕ). key_at p.keys j ≡ Some key) (sym same) left_is.0.stands))

    number_is : (i : ℕ) (k : Key) → key_at p.keys i ≡ Some k
        → IsNumber p.values (parity k) (cond (i == item.slot) item.value (link p.slots.sents i))
    number_is i k stands_here = elim (i == item.slot) as (λ test. (i == item.slot) ≡ test
        → IsNumber p.values (parity k) (cond test item.value (link p.slots.sents i))) [
          | true ↦ λ same. subst (λ (j : Key). IsNumber p.values (parity j) item.value) (some_is (sym left_is.0.stands
              ∙ subst (λ (j : ℕ). key_at p.keys j ≡ Some k) (eqb-true i item.slot same) stands_here)) left_is.0.number
          | false ↦ λ differs. (table.taken i k stands_here).sent
        ] refl

    not_silent : p.slots.left ≡ [] → ⊥
    not_silent none = cons_nil (sym is ∙ none)

    pub passed_kept : IsTable passed
    passed_kept = record {
      once = table.once;
      kept = table.kept;
      room = table.room;
      nows_length = table.nows_length;
      sents_length = length-set _ _ _ ∙ table.sents_length;
      routes_length = table.routes_length;
      vacant = λ i none. record {
        now = (table.vacant i none).now;
        sent = sent_is i ∙ ap (λ (t : Bool). cond t item.value (link p.slots.sents i)) (elsewhere i none)
            ∙ (table.vacant i none).sent;
        chosen = (table.vacant i none).chosen;
      };
      taken = λ i k here. record {
        now = (table.taken i k here).now;
        sent = subst (IsNumber p.values (parity k)) (sym (sent_is i)) (number_is i k here);
      };
      chosen = table.chosen;
      left = subst (AreLeft p.keys p.values) (sym rest_is) left_is.1;
      left_once = subst (λ (l : List SlotItem). AreApart (slots_of l)) (sym rest_is) once_is.1;
      left_together = subst (λ (l : List SlotItem). AreTogether (values_left l)) (sym rest_is) together_is.1;
      down = λ none. absurd (not_silent (table.down none).0.none);
      ipv4_stale = λ stale. absurd (not_silent (table.ipv4_stale stale).none);
      ipv6_stale = λ stale. absurd (not_silent (table.ipv6_stale stale).none);
    }

    told_is : (k : Key) → told_at (seen passed) k ≡ cond (same_key key k)
        (attrs_said (says_by item.value (attrs_under p.values item.value))) (told_at (seen p) k)
    told_is k = told_seen passed k ∙ changed p.keys table.once key item.slot
        (stands p.keys key item.slot table.once left_is.0.stands) (told_by p) (told_by passed)
        (attrs_under p.values item.value) (λ i. ap (attrs_under p.values) (sent_is i)
        ∙ attrs_if p.values (i == item.slot) item.value (link p.slots.sents i)) k
        ∙ ap₂ (cond (same_key key k)) (sym (said_attrs item.value (attrs_under p.values item.value)))
        (sym (told_seen p k))

    items_are : items_seen p.keys p.values p.slots.left ≡ item_for p.values item key ∷ items_seen p.keys p.values rest
    items_are = ap (items_seen p.keys p.values) is ∙ ap (λ (o : Option Key). elim o [
      | Some k ↦ item_for p.values item k ∷ items_seen p.keys p.values rest
      | None ↦ items_seen p.keys p.values rest
    ]) left_is.0.stands

    pub passed_passes : Passes (seen p) (seen passed)
    passed_passes = record {
      due = subst (λ (items : List Item). PassesDue items (seen p) (seen passed)) (sym items_are) (record {
        told = told_is;
        left = ap (items_seen p.keys p.values) rest_is ∙ sym (ap (drop 1) items_are);
        markers = refl;
      });
      session = refl;
      routes = routes_kept p passed refl refl refl;
      ready = ready_kept p passed refl refl;
    }

    was_told : (i : ℕ) → is_some (told_by passed i) ≡ true
        → (is_some (told_by p i) || said_by p.values (value_left p.slots.left i)) ≡ true
    was_told i told = elim (i == item.slot) as (λ test. (i == item.slot) ≡ test
        → (is_some (told_by p i) || said_by p.values (value_left p.slots.left i)) ≡ true) [
          | true ↦ λ same. or_true (is_some (told_by p i)) (said_by p.values (value_left p.slots.left i))
              (ap (λ (l : List SlotItem). said_by p.values (value_left l i)) is
              ∙ ap (λ (t : Bool). said_by p.values (cond t (Some item.value) (value_left rest i))) same
              ∙ sym (ap (λ (n : ℕ). is_some (attrs_under p.values n)) (sent_is i
              ∙ ap (λ (t : Bool). cond t item.value (link p.slots.sents i)) same)) ∙ told)
          | false ↦ λ differs. ap (λ (b : Bool). b || said_by p.values (value_left p.slots.left i))
              (sym (ap (λ (n : ℕ). is_some (attrs_under p.values n)) (sent_is i
              ∙ ap (λ (t : Bool). cond t item.value (link p.slots.sents i)) differs)) ∙ told)
        ] refl

    was_said : (i : ℕ) → said_by p.values (value_left passed.slots.left i) ≡ true
        → said_by p.values (value_left p.slots.left i) ≡ true
    was_said i said = elim (i == item.slot) as (λ test. (i == item.slot) ≡ test
        → said_by p.values (value_left p.slots.left i) ≡ true) [
          | true ↦ λ same. absurd (false≢true (sym (unsaid p.values (value_left rest item.slot)
              (sym (left_slot rest item.slot) ∙ once_is.0))
              ∙ subst (λ (j : ℕ). said_by p.values (value_left rest j) ≡ true) (eqb-true i item.slot same)
              (sym (ap (λ (l : List SlotItem). said_by p.values (value_left l i)) rest_is) ∙ said)))
          | false ↦ λ differs. ap (λ (l : List SlotItem). said_by p.values (value_left l i)) is
              ∙ ap (λ (t : Bool). said_by p.values (cond t (Some item.value) (value_left rest i))) differs
              ∙ sym (ap (λ (l : List SlotItem). said_by p.values (value_left l i)) rest_is) ∙ said
        ] refl

    pub passed_fewer : nodes (seen passed) ≤ nodes (seen p)
    passed_fewer =
        let fewer = count_fewer (node_by p) (node_by passed) p.keys 0 (λ i. was_node (is_some (route_by p i))
        (is_some (told_by passed i)) (said_by p.values (value_left passed.slots.left i)) (is_some (told_by p i))
        (said_by p.values (value_left p.slots.left i)) (was_told i) (was_said i)) in
        let old = nodes_seen p table in
        let new = nodes_seen passed passed_kept in
        omega arith

    elsewhere_same : (i : ℕ) → i ≢ item.slot → node_by passed i ≡ node_by p i
    elsewhere_same i other = let differs = ne_eqb i item.slot other in
        ap₂ (λ (a b : Bool). is_some (route_by p i) || (a || b))
        (ap (λ (n : ℕ). is_some (attrs_under p.values n)) (sent_is i
        ∙ ap (λ (t : Bool). cond t item.value (link p.slots.sents i)) differs))
        (ap (λ (l : List SlotItem). said_by p.values (value_left l i)) rest_is
        ∙ sym (ap (λ (l : List SlotItem). said_by p.values (value_left l i)) is
        ∙ ap (λ (t : Bool). said_by p.values (cond t (Some item.value) (value_left rest i))) differs))

    still_node : (before after : Bool) → before ≡ node_by p item.slot → after ≡ node_by passed item.slot
        → after ≡ true → before ≡ true
    still_node before after before_is after_is stands_after = before_is ∙ was_node (is_some (route_by p item.slot))
        (is_some (told_by passed item.slot)) (said_by p.values (value_left passed.slots.left item.slot))
        (is_some (told_by p item.slot)) (said_by p.values (value_left p.slots.left item.slot)) (was_told item.slot)
        (was_said item.slot) (sym after_is ∙ stands_after)

    -- the nodes are one fewer just where the item's key is none any more
    pub passed_counts : (before after : Bool) → before ≡ node_by p item.slot → after ≡ node_by passed item.slot
        → nodes (seen passed) + cond (before && not after) 1 0 ≡ nodes (seen p)
    passed_counts before after before_is after_is =
        let moves = count_changed (node_by p) (node_by passed) p.keys 0 item.slot item.slot key left_is.0.stands
        (omega arith) elsewhere_same in
        let old = nodes_seen p table in
        let new = nodes_seen passed passed_kept in
        let was = ap one before_is in
        let now = ap one after_is in
        let went = one_went before after (still_node before after before_is after_is) in
        omega arith

-- the slots behind a pass
abbrev pub HasPassed : Slots → Slots → Type 0
HasPassed old new = MatchOption (slice_get old.left 0) (new ≡ old) (λ item. new ≡ record old {
  sents = slice_set old.sents item.slot item.value;
  left = drop 1 old.left;
})

module _ (p : Parts) (table : IsTable p) (state : State) (view : seen p ≡ state) where
  module _ (slots : Slots) (pass : HasPassed p.slots slots) (some : is_some (slice_get p.slots.left 0) ≡ true) where
    abbrev pub made : Parts
    made = record p { slots = slots }

    record IsPass (q : Parts) : Type 0 where
      pub kept : IsTable q
      pub passes : Passes state (seen q)
      pub fewer : nodes (seen q) ≤ nodes state

    made_pass : (left : List SlotItem) → p.slots.left ≡ left → IsPass made
    made_pass [] is = absurd (false≢true (sym (ap (λ (l : List SlotItem). is_some (slice_get l 0)) is) ∙ some))
    made_pass (item ∷ rest) is =
        let change = subst (λ (o : Option SlotItem). MatchOption o (slots ≡ p.slots) (λ i. slots ≡ record p.slots {
          sents = slice_set p.slots.sents i.slot i.value;
          left = drop 1 p.slots.left;
        })) (ap (λ (l : List SlotItem). slice_get l 0) is) pass in
        subst IsPass (ap (λ (s : Slots). record p { slots = s }) (sym change)) (record {
          kept = passed_kept p table item rest is;
          passes = subst (λ (s : State). Passes s (seen (passed p table item rest is))) view
              (passed_passes p table item rest is);
          fewer = subst (λ (s : State). nodes (seen (passed p table item rest is)) ≤ nodes s) view
              (passed_fewer p table item rest is);
        })

    pub made_kept : IsTable made
    made_kept = (made_pass p.slots.left refl).kept

    pub made_passes : Passes state (seen made)
    made_passes = (made_pass p.slots.left refl).passes

    pub made_fewer : nodes (seen made) ≤ nodes state
    made_fewer = (made_pass p.slots.left refl).fewer

  -- ---- markers

  module _ (none : is_some (slice_get p.slots.left 0) ≡ false) (ipv4 ipv6 : Bool)
      (fewer : markers_of ipv4 ipv6 ≡ drop 1 (markers_of p.ipv4_marker p.ipv6_marker)) where
    abbrev pub unmarked : Parts
    unmarked = record p { ipv4_marker = ipv4; ipv6_marker = ipv6 }

    left_none : (left : List SlotItem) → is_some (slice_get left 0) ≡ false → left ≡ []
    left_none [] is = refl
    left_none (item ∷ rest) is = absurd (false≢true (sym is))

    pub unmarked_kept : IsTable unmarked
    unmarked_kept = record {
      once = table.once;
      kept = table.kept;
      room = table.room;
      nows_length = table.nows_length;
      sents_length = table.sents_length;
      routes_length = table.routes_length;
      vacant = λ i free. record {
        now = (table.vacant i free).now;
        sent = (table.vacant i free).sent;
        chosen = (table.vacant i free).chosen;
      };
      taken = λ i k here. record { now = (table.taken i k here).now; sent = (table.taken i k here).sent };
      chosen = table.chosen;
      left = table.left;
      left_once = table.left_once;
      left_together = table.left_together;
      down = λ caps. ((table.down caps).0, (table.down caps).1, fewer ∙ ap (drop 1) (table.down caps).2);
      ipv4_stale = table.ipv4_stale;
      ipv6_stale = table.ipv6_stale;
    }

    pub unmarked_passes : Passes state (seen unmarked)
    unmarked_passes = subst (λ (s : State). Passes s (seen unmarked)) view (record {
      due = subst (λ (items : List Item). PassesDue items (seen p) (seen unmarked))
          (sym (ap (items_seen p.keys p.values) (left_none p.slots.left none))) (record {
            told = told_kept p unmarked refl refl refl;
            left = refl;
            markers = fewer;
          });
      session = refl;
      routes = routes_kept p unmarked refl refl refl;
      ready = ready_kept p unmarked refl refl;
    })

    pub unmarked_fewer : nodes (seen unmarked) ≤ nodes state
    unmarked_fewer =
        let same = nodes_seen unmarked unmarked_kept ∙ sym (nodes_seen p table) ∙ ap nodes view in
        omega arith

pub ipv4_gone : (ipv4 ipv6 : Bool) → ipv4 ≡ true → markers_of false ipv6 ≡ drop 1 (markers_of ipv4 ipv6)
ipv4_gone true true is = refl
ipv4_gone true false is = refl
ipv4_gone false ipv6 is = absurd (false≢true is)

pub ipv6_gone : (ipv4 ipv6 : Bool) → ipv4 ≡ false → markers_of ipv4 false ≡ drop 1 (markers_of ipv4 ipv6)
ipv6_gone false true is = refl
ipv6_gone false false is = refl
ipv6_gone true ipv6 is = absurd (false≢true (sym is))
