-- Keys come and go at places that nothing keeps: what the rest of the table has stays.
use Rattle.std.proofs.Common.{◌≡◌, ℕ, ◌+◌, ◌*◌, ◌%◌, ◌<◌, Bool, true, false, List, [], ◌∷◌, Option, Some, None}
use Rattle.std.proofs.Common.{◌==◌, cond, length, refl, sym, ap, ap₂, subst, ◌∙◌, arith}
use Rattle.std.specs.Prelude.{is_some, nat_lt, ◌||◌, ◌&&◌}
use Rattle.std.specs.Option.{option_map, option_and_then}
use Rattle.std.proofs.lemmas.Bool.{false≢true, eqb-true}
use Rattle.std.proofs.lemmas.Grind.{common_steps}
use Rattle.linked_pending.specs.Links.{link}
use Rattle.linked_pending.specs.Listing.{has, AreApart}
use Rattle.linked_pending.proofs.ListingLemmas.{has_first, has_rest}
use Rattle.route_values.specs.declared.key.Key.{Key}
use Rattle.slot_batches.specs.Left.{slots_of, value_left, AreTogether}
use Rattle.slot_batches.specs.Left.{values_of as values_left}
use Rattle.slot_batches.specs.Slots.{Slots}
use Rattle.slot_batches.specs.declared.slots.Item.{Item as SlotItem}
use Rattle.adj_rib_out.specs.declared.chosen.Chosen.{Chosen}
use Rattle.adj_rib_out.specs.State.{Item}
use Rattle.adj_rib_out.specs.Calls.{KeepsRoutes, KeepsSession, KeepsBatch}
use Rattle.adj_rib_out.specs.Nodes.{nodes}
use Rattle.adj_rib_out.specs.Places.{key_at, place_of, StandOnce}
use Rattle.adj_rib_out.specs.Kept.{Parts, Values, IsTable, IsNumber, IsVacant, IsTaken, IsSilent, AreLeft, seen}
use Rattle.adj_rib_out.specs.Kept.{route_by}
use Rattle.adj_rib_out.specs.Kept.{told_by, route_in, attrs_under, chosen_at, shown_number, parity, session_of}
use Rattle.adj_rib_out.specs.Kept.{items_seen, item_for}
use Rattle.adj_rib_out.specs.Readying.{KeepsRest}
use Rattle.adj_rib_out.specs.Trimming.{is_kept_by}
use Rattle.adj_rib_out.proofs.RowLemmas.{found, stands, none_some, some_is, none_of}
use Rattle.adj_rib_out.proofs.PartLemmas.{route_seen, told_seen, left_slot}
use Rattle.adj_rib_out.proofs.NumberLemmas.{attrs_of_none, parity_small, shown_none, not_above}
use Rattle.adj_rib_out.proofs.SeenNodeLemmas.{node_by, said_by, nodes_seen}
use Rattle.adj_rib_out.proofs.AlikeLemmas.{count_alike}

-- ---- what a place has that nothing keeps

-- nothing is kept at a place
pub record IsLone (p : Parts) (place : ℕ) : Type 0 where
  pub chosen : chosen_at p.routes place ≡ None
  pub sent : link p.slots.sents place < 2
  pub left : value_left p.slots.left place ≡ None

none_holds : (a b c : Bool) → (a || (b || c)) ≡ false → (a ≡ false) × (b ≡ false) × (c ≡ false)
none_holds true b c is = absurd (false≢true (sym is))
none_holds false true c is = absurd (false≢true (sym is))
none_holds false false true is = absurd (false≢true (sym is))
none_holds false false false is = (refl, refl, refl)

below_two : (n : ℕ) → nat_lt 1 n ≡ false → n < 2
below_two n is = grind (arith, common_steps)

pub lone_of : (p : Parts) (place : ℕ) → is_kept_by p.routes p.slots place ≡ false → IsLone p place
lone_of p place is =
    let each = none_holds (is_some (chosen_at p.routes place)) (nat_lt 1 (link p.slots.sents place))
    (is_some (value_left p.slots.left place)) is in
    record {
      chosen = none_of (chosen_at p.routes place) each.0;
      sent = below_two (link p.slots.sents place) each.1;
      left = none_of (value_left p.slots.left place) each.2;
    }

pub lone_kept : (p : Parts) (place : ℕ) → IsLone p place → is_kept_by p.routes p.slots place ≡ false
lone_kept p place lone = ap₂ (λ (a b : Bool). a || b) (ap is_some lone.chosen)
    (ap₂ (λ (a b : Bool). a || b) (not_above (link p.slots.sents place) lone.sent) (ap is_some lone.left))

-- a slot that shows nothing, as one of no key or of a key that nothing keeps does
pub record IsBare (keys : List (Option Key)) (slots : Slots) (place : ℕ) : Type 0 where
  pub now : link slots.nows place < 2
  pub sent : link slots.sents place ≡ link slots.nows place
  pub parity_is : (key : Key) → key_at keys place ≡ Some key → link slots.nows place ≡ parity key

same_parity : (n m : ℕ) → n < 2 → n % 2 ≡ m → n ≡ m
same_parity n m small is = omega arith

module _ (p : Parts) (table : IsTable p) where
  pub lone_bare : (place : ℕ) → IsLone p place → IsBare p.keys p.slots place
  lone_bare place lone = by (key_at p.keys place) refl
    where
      by : (o : Option Key) → key_at p.keys place ≡ o → IsBare p.keys p.slots place
      by None none = record {
        now = (table.vacant place none).now;
        sent = (table.vacant place none).sent;
        parity_is = λ key here. absurd (none_some (sym none ∙ here));
      }
      by (Some key) here =
          let taken = table.taken place key here in
          let shows : link p.slots.nows place ≡ parity key =
          taken.now ∙ ap (shown_number p.caps p.values key) lone.chosen ∙ shown_none p.values p.caps key in
          record {
            now = subst (λ n. n < 2) (sym shows) (parity_small key);
            sent = same_parity (link p.slots.sents place) (parity key) lone.sent taken.sent.parity_is ∙ sym shows;
            parity_is = λ k there. shows ∙ ap parity (some_is (sym here ∙ there));
          }

  not_left : (items : List SlotItem) → AreLeft p.keys p.values items → (place : ℕ) → key_at p.keys place ≡ None
      → value_left items place ≡ None
  not_left [] left place none = refl
  not_left (item ∷ rest) left place none = elim (place == item.slot) as (λ t. (place == item.slot) ≡ t
      → cond t (Some item.value) (value_left rest place) ≡ None) [
        | true ↦ λ same. absurd (none_some (sym none
            ∙ subst (λ (j : ℕ). key_at p.keys j ≡ Some left.0.key) (sym (eqb-true place item.slot same)) left.0.stands))
        | false ↦ λ differs. not_left rest left.1 place none
      ] refl

  pub vacant_lone : (place : ℕ) → key_at p.keys place ≡ None → IsLone p place
  vacant_lone place none =
      let vacant = table.vacant place none in
      record {
        chosen = vacant.chosen;
        sent = subst (λ n. n < 2) (sym vacant.sent) vacant.now;
        left = not_left p.slots.left table.left place none;
      }

-- ---- keys, routes and slots that differ from a table's at such places alone

pub data Stays (p : Parts) (keys : List (Option Key)) (slots : Slots) (place : ℕ) : Type 0 where
  Same_place : key_at keys place ≡ key_at p.keys place → link slots.nows place ≡ link p.slots.nows place
      → link slots.sents place ≡ link p.slots.sents place → Stays p keys slots place
  Lone_place : IsLone p place → IsBare keys slots place → Stays p keys slots place

pub record ChangesLone (p : Parts) (keys : List (Option Key)) (routes : List (Option Chosen)) (slots : Slots)
    : Type 0 where
  pub once : StandOnce keys
  pub stays : (place : ℕ) → Stays p keys slots place
  pub given : (place : ℕ) → chosen_at routes place ≡ chosen_at p.routes place
  pub left : slots.left ≡ p.slots.left
  pub even : slots.even_again ≡ p.slots.even_again
  pub odd : slots.odd_again ≡ p.slots.odd_again
  pub room : (place : ℕ) (key : Key) → key_at keys place ≡ Some key → 2 * length p.values.wires + 1 < slots.room
  pub nows_length : length slots.nows ≡ length keys
  pub sents_length : length slots.sents ≡ length keys
  pub routes_length : length routes ≡ length keys

parity_number : (values : Values) (key : Key) → IsNumber values (parity key) (parity key)
parity_number values key =
    let small = parity_small key in
    record { parity_is = omega arith; stands = λ above. absurd (omega arith) }

module _ (p : Parts) (table : IsTable p) (keys : List (Option Key)) (routes : List (Option Chosen)) (slots : Slots)
    (changes : ChangesLone p keys routes slots) where
  abbrev pub changed : Parts
  changed = record p { keys = keys; routes = routes; slots = slots }

  vacant : (place : ℕ) → Stays p keys slots place → key_at keys place ≡ None → IsVacant changed place
  vacant place (Same_place key now sent) none =
      let was = table.vacant place (sym key ∙ none) in
      record {
        now = subst (λ n. n < 2) (sym now) was.now;
        sent = sent ∙ was.sent ∙ sym now;
        chosen = changes.given place ∙ was.chosen;
      }
  vacant place (Lone_place lone bare) none =
      record { now = bare.now; sent = bare.sent; chosen = changes.given place ∙ lone.chosen }

  taken : (place : ℕ) → Stays p keys slots place → (key : Key) → key_at keys place ≡ Some key
      → IsTaken changed place key
  taken place (Same_place same now sent) key here =
      let was = table.taken place key (sym same ∙ here) in
      record {
        now = now ∙ was.now ∙ ap (shown_number p.caps p.values key) (sym (changes.given place));
        sent = subst (IsNumber p.values (parity key)) (sym sent) was.sent;
      }
  taken place (Lone_place lone bare) key here = record {
    now = bare.parity_is key here ∙ sym (ap (shown_number p.caps p.values key) (changes.given place ∙ lone.chosen)
        ∙ shown_none p.values p.caps key);
    sent = subst (IsNumber p.values (parity key)) (sym (bare.sent ∙ bare.parity_is key here))
        (parity_number p.values key);
  }

  key_stays : (place : ℕ) → Stays p keys slots place → (key : Key) → key_at p.keys place ≡ Some key
      → has place (slots_of p.slots.left) ≡ true → key_at keys place ≡ Some key
  key_stays place (Same_place same now sent) key here there = same ∙ here
  key_stays place (Lone_place lone bare) key here there = absurd (false≢true
      (sym (left_slot p.slots.left place ∙ ap is_some lone.left) ∙ there))

  left_stays : (items : List SlotItem) → AreLeft p.keys p.values items
      → ((place : ℕ) → has place (slots_of items) ≡ true → has place (slots_of p.slots.left) ≡ true)
      → AreLeft keys p.values items
  left_stays [] left all = left
  left_stays (item ∷ rest) left all = (
    record {
      key = left.0.key;
      stands = key_stays item.slot (changes.stays item.slot) left.0.key left.0.stands
          (all item.slot (has_first item.slot (slots_of rest)));
      number = left.0.number;
    },
    left_stays rest left.1 (λ place there. all place (has_rest place item.slot (slots_of rest) there)),
  )

  silent : (parity : ℕ) → IsSilent p.slots.sents p.slots.left parity → IsSilent slots.sents slots.left parity
  silent parity was = record {
    sent = λ place is. small place (changes.stays place) is;
    none = changes.left ∙ was.none;
  }
    where
      small : (place : ℕ) → Stays p keys slots place → link slots.sents place % 2 ≡ parity
          → link slots.sents place < 2
      small place (Same_place key now sent) is =
          subst (λ n. n < 2) (sym sent) (was.sent place (ap (λ n. n % 2) (sym sent) ∙ is))
      small place (Lone_place lone bare) is = subst (λ n. n < 2) (sym bare.sent) bare.now

  pub changed_kept : IsTable changed
  changed_kept = record {
    once = changes.once;
    kept = table.kept;
    room = changes.room;
    nows_length = changes.nows_length;
    sents_length = changes.sents_length;
    routes_length = changes.routes_length;
    vacant = λ place none. vacant place (changes.stays place) none;
    taken = λ place key here. taken place (changes.stays place) key here;
    chosen = λ place chosen is. table.chosen place chosen (sym (changes.given place) ∙ is);
    left = subst (AreLeft keys p.values) (sym changes.left) (left_stays p.slots.left table.left (λ place there. there));
    left_once = subst (λ (l : List SlotItem). AreApart (slots_of l)) (sym changes.left) table.left_once;
    left_together = subst (λ (l : List SlotItem). AreTogether (values_left l)) (sym changes.left) table.left_together;
    down = λ none. let was = table.down none in (silent 0 was.0, silent 1 was.1, was.2);
    ipv4_stale = λ stale. silent 0 (table.ipv4_stale stale);
    ipv6_stale = λ stale. silent 1 (table.ipv6_stale stale);
  }

  -- ---- what is seen

  -- a look-up by the places of keys that finds nothing where nothing is kept
  module _ {X : Type 0} (f g : ℕ → Option X)
      (same : (place : ℕ) → link slots.sents place ≡ link p.slots.sents place → g place ≡ f place)
      (none_old : (place : ℕ) → IsLone p place → f place ≡ None)
      (none_new : (place : ℕ) → IsLone p place → link slots.sents place < 2 → g place ≡ None) (key : Key) where
    none_by : ((place : ℕ) → key_at keys place ≡ Some key → f place ≡ None) → (o : Option ℕ)
        → place_of p.keys key ≡ o → option_and_then f o ≡ None
    none_by elsewhere None is = refl
    none_by elsewhere (Some place) is = at (changes.stays place)
      where
        at : Stays p keys slots place → f place ≡ None
        at (Same_place same_key now sent) = elsewhere place (same_key ∙ found p.keys key place is)
        at (Lone_place lone bare) = none_old place lone

    by_new : (o : Option ℕ) → place_of keys key ≡ o
        → option_and_then g o ≡ option_and_then f (place_of p.keys key)
    by_new None none = sym (none_by (λ place here. absurd (none_some (sym none
        ∙ stands keys key place changes.once here))) (place_of p.keys key) refl)
    by_new (Some place) is = at (changes.stays place)
      where
        at : Stays p keys slots place → g place ≡ option_and_then f (place_of p.keys key)
        at (Same_place same_key now sent) = same place sent
            ∙ sym (ap (option_and_then f) (stands p.keys key place table.once
            (sym same_key ∙ found keys key place is)))
        at (Lone_place lone bare) = none_new place lone (subst (λ n. n < 2) (sym bare.sent) bare.now)
            ∙ sym (none_by (λ other there. subst (λ n. f n ≡ None)
            (changes.once place other key (found keys key place is) there) (none_old place lone))
            (place_of p.keys key) refl)

    looked_up : option_and_then g (place_of keys key) ≡ option_and_then f (place_of p.keys key)
    looked_up = by_new (place_of keys key) refl

  route_same : (place : ℕ) → route_by changed place ≡ route_by p place
  route_same place = ap (route_in p.values) (changes.given place)

  no_route : (place : ℕ) → IsLone p place → route_by p place ≡ None
  no_route place lone = ap (route_in p.values) lone.chosen

  told_same : (place : ℕ) → link slots.sents place ≡ link p.slots.sents place → told_by changed place ≡ told_by p place
  told_same place sent = ap (attrs_under p.values) sent

  keeps_routes : KeepsRoutes (seen p) (seen changed)
  keeps_routes = record {
    side = refl;
    routes = λ key. route_seen changed key
        ∙ looked_up (route_by p) (route_by changed) (λ place sent. route_same place) no_route
        (λ place lone small. route_same place ∙ no_route place lone) key
        ∙ sym (route_seen p key);
  }

  keeps_session : KeepsSession (seen p) (seen changed)
  keeps_session = record {
    session = ap₂ (λ (even odd : Bool). option_map (session_of (record p {
      slots = record p.slots { even_again = even; odd_again = odd };
    })) p.caps) changes.even changes.odd;
    told = λ key. told_seen changed key
        ∙ looked_up (told_by p) (told_by changed) told_same
        (λ place lone. attrs_of_none p.values (link p.slots.sents place) lone.sent)
        (λ place lone small. attrs_of_none p.values (link slots.sents place) small) key
        ∙ sym (told_seen p key);
  }

  items_stay : (items : List SlotItem) → AreLeft p.keys p.values items
      → ((place : ℕ) → has place (slots_of items) ≡ true → has place (slots_of p.slots.left) ≡ true)
      → items_seen keys p.values items ≡ items_seen p.keys p.values items
  items_stay [] left all = refl
  items_stay (item ∷ rest) left all = ap₂ (λ (o : Option Key) (l : List Item). elim o [
    | Some key ↦ item_for p.values item key ∷ l
    | None ↦ l
  ]) (key_stays item.slot (changes.stays item.slot) left.0.key left.0.stands
      (all item.slot (has_first item.slot (slots_of rest))) ∙ sym left.0.stands)
      (items_stay rest left.1 (λ place there. all place (has_rest place item.slot (slots_of rest) there)))

  keeps_batch : KeepsBatch (seen p) (seen changed)
  keeps_batch = record {
    left = ap (items_seen keys p.values) changes.left ∙ items_stay p.slots.left table.left (λ place there. there);
    markers = refl;
  }

  -- ---- nodes

  no_node : (place : ℕ) → IsLone p place → IsBare keys slots place → node_by changed place ≡ false
  no_node place lone bare = ap₂ (λ (a b : Bool). a || b)
      (ap is_some (route_same place ∙ no_route place lone))
      (ap₂ (λ (a b : Bool). a || b) (ap is_some (attrs_of_none p.values (link slots.sents place)
      (subst (λ n. n < 2) (sym bare.sent) bare.now)))
      (ap (λ (l : List SlotItem). said_by p.values (value_left l place)) changes.left
      ∙ ap (said_by p.values) lone.left))

  was_no_node : (place : ℕ) → IsLone p place → node_by p place ≡ false
  was_no_node place lone = ap₂ (λ (a b : Bool). a || b) (ap is_some (no_route place lone))
      (ap₂ (λ (a b : Bool). a || b) (ap is_some (attrs_of_none p.values (link p.slots.sents place) lone.sent))
      (ap (said_by p.values) lone.left))

  and_false : (a b c d : Bool) → b ≡ false → d ≡ false → (a && b) ≡ (c && d)
  and_false true b true d first second = first ∙ sym second
  and_false true b false d first second = first
  and_false false b true d first second = sym second
  and_false false b false d first second = refl

  same_nodes : (place : ℕ) → Stays p keys slots place → (is_some (key_at keys place) && node_by changed place)
      ≡ (is_some (key_at p.keys place) && node_by p place)
  same_nodes place (Same_place key now sent) = ap₂ (λ (a b : Bool). a && b) (ap is_some key)
      (ap₂ (λ (a b : Bool). a || b) (ap is_some (route_same place)) (ap₂ (λ (a b : Bool). a || b)
      (ap is_some (told_same place sent))
      (ap (λ (l : List SlotItem). said_by p.values (value_left l place)) changes.left)))
  same_nodes place (Lone_place lone bare) = and_false (is_some (key_at keys place)) (node_by changed place)
      (is_some (key_at p.keys place)) (node_by p place) (no_node place lone bare) (was_no_node place lone)

  keeps_nodes : nodes (seen changed) ≡ nodes (seen p)
  keeps_nodes = nodes_seen changed changed_kept
      ∙ count_alike (node_by changed) (node_by p) keys p.keys 0 (λ place. subst (λ n.
      (is_some (key_at keys place) && node_by changed n) ≡ (is_some (key_at p.keys place) && node_by p n))
      (omega arith) (same_nodes place (changes.stays place)))
      ∙ sym (nodes_seen p table)

  pub changed_rest : KeepsRest (seen p) (seen changed)
  changed_rest = record {
    values = λ number. refl;
    routes = keeps_routes;
    session = keeps_session;
    batch = keeps_batch;
    nodes = keeps_nodes;
  }
