-- A session stands on which nothing was sent, or none.
use Rattle.std.proofs.Common.{◌≡◌, ℕ, ◌+◌, ◌*◌, ◌<◌, ◌≤◌, ◌%◌, Bool, true, false, List, [], ◌∷◌}
use Rattle.std.proofs.Common.{Option, Some, None, zero, suc, length, refl, sym, ap, ap₂, subst, ◌∙◌, arith}
use Rattle.std.specs.Option.{option_map, option_and_then}
use Rattle.std.specs.Prelude.{is_some, ◌||◌}
use Rattle.std.proofs.lemmas.Bool.{false≢true}
use Rattle.linked_pending.specs.Links.{link}
use Rattle.route_values.specs.declared.key.Key.{Key}
use Rattle.route_values.specs.Caps.{Caps}
use Rattle.linked_pending.specs.Listing.{AreApart}
use Rattle.std.specs.Prelude.{nat_lt}
use Rattle.std.proofs.lemmas.Grind.{common_steps}
use Rattle.slot_batches.specs.Left.{value_left, slots_of, AreTogether}
use Rattle.slot_batches.specs.Left.{values_of as values_left}
use Rattle.slot_batches.specs.Slots.{Slots}
use Rattle.slot_batches.specs.declared.slots.Item.{Item as SlotItem}
use Rattle.adj_rib_out.specs.State.{State}
use Rattle.adj_rib_out.specs.Calls.{Restarts, fresh}
use Rattle.adj_rib_out.specs.Nodes.{nodes}
use Rattle.adj_rib_out.specs.Places.{key_at, place_of}
use Rattle.adj_rib_out.specs.Kept.{Parts, IsTable, AreLeft, seen, parity, route_by, told_by}
use Rattle.adj_rib_out.specs.Kept.{items_seen, session_of, shown_number, chosen_at}
use Rattle.adj_rib_out.proofs.NumberLemmas.{attrs_of_none, parity_small, shown_is}
use Rattle.adj_rib_out.proofs.PartLemmas.{told_seen}
use Rattle.adj_rib_out.proofs.KeepLemmas.{ready_kept, routes_kept}
use Rattle.adj_rib_out.proofs.NodeLemmas.{count_fewer}
use Rattle.adj_rib_out.proofs.SeenNodeLemmas.{node_by, said_by, nodes_seen}

-- slots of which nothing was sent, as a session is to have them
pub record IsFresh (p : Parts) (caps : Option Caps) (slots : Slots) : Type 0 where
  pub nows_length : length slots.nows ≡ length p.keys
  pub sents_length : length slots.sents ≡ length p.keys
  pub room : slots.room ≡ p.slots.room
  pub left : slots.left ≡ []
  pub even : slots.even_again ≡ false
  pub odd : slots.odd_again ≡ false
  pub sent : (place : ℕ) → link slots.sents place < 2
  pub parity_is : (place : ℕ) (key : Key) → key_at p.keys place ≡ Some key → link slots.sents place % 2 ≡ parity key
  pub free : (place : ℕ) → key_at p.keys place ≡ None → link slots.nows place < 2
  pub same : (place : ℕ) → key_at p.keys place ≡ None → link slots.sents place ≡ link slots.nows place
  pub shown : (place : ℕ) (key : Key) → key_at p.keys place ≡ Some key
      → link slots.nows place ≡ shown_number caps p.values key (chosen_at p.routes place)

only_route : (route told said : Bool) → told ≡ false → said ≡ false → (route || (told || said)) ≡ true → route ≡ true
only_route true told said no_told no_said is = refl
only_route false told said no_told no_said is =
    absurd (false≢true (sym (ap₂ (λ (a b : Bool). a || b) no_told no_said) ∙ is))

or_true : (a b : Bool) → a ≡ true → (a || b) ≡ true
or_true a b is = ap (λ (t : Bool). t || b) is

module _ (p : Parts) (table : IsTable p) (state : State) (view : seen p ≡ state) (caps : Option Caps) (slots : Slots)
    (fresh_slots : IsFresh p caps slots) where
  abbrev pub restarted : Parts
  restarted = record p {
    slots = slots;
    caps = caps;
    begun = false;
    ipv4_stale = false;
    ipv6_stale = false;
    ipv4_marker = false;
    ipv6_marker = false;
  }

  pub restarted_kept : IsTable restarted
  restarted_kept = record {
    once = table.once;
    kept = table.kept;
    room = λ i key here. subst (λ n. 2 * length p.values.wires + 1 < n) (sym fresh_slots.room) (table.room i key here);
    nows_length = fresh_slots.nows_length;
    sents_length = fresh_slots.sents_length;
    routes_length = table.routes_length;
    vacant = λ i none. record {
      now = fresh_slots.free i none;
      sent = fresh_slots.same i none;
      chosen = (table.vacant i none).chosen;
    };
    taken = λ i k here. record {
      now = fresh_slots.shown i k here;
      sent = record {
        parity_is = fresh_slots.parity_is i k here;
        stands = λ above. let below = fresh_slots.sent i in absurd (omega arith);
      };
    };
    chosen = table.chosen;
    left = subst (AreLeft p.keys p.values) (sym fresh_slots.left) tt;
    left_once = subst (λ (l : List SlotItem). AreApart (slots_of l)) (sym fresh_slots.left) tt;
    left_together = subst (λ (l : List SlotItem). AreTogether (values_left l)) (sym fresh_slots.left) tt;
    down = λ none. (
      record { sent = λ i is. fresh_slots.sent i; none = fresh_slots.left },
      record { sent = λ i is. fresh_slots.sent i; none = fresh_slots.left },
      refl,
    );
    ipv4_stale = λ is. absurd (false≢true is);
    ipv6_stale = λ is. absurd (false≢true is);
  }

  nothing_told : (place : Option ℕ) → option_and_then (told_by restarted) place ≡ None
  nothing_told None = refl
  nothing_told (Some place) = attrs_of_none p.values (link slots.sents place) (fresh_slots.sent place)

  session_is : (c : Option Caps) → option_map (session_of restarted) c ≡ option_map fresh c
  session_is None = refl
  session_is (Some c) = ap₂ (λ (even odd : Bool). Some (record {
    caps = c;
    begun = false;
    ipv4_again = even || false;
    ipv6_again = odd || false;
  })) fresh_slots.even fresh_slots.odd

  pub restarted_restarts : Restarts state (seen restarted) caps
  restarted_restarts = subst (λ (s : State). Restarts s (seen restarted) caps) view (record {
    session = session_is caps;
    told = λ key. told_seen restarted key ∙ nothing_told (place_of p.keys key);
    left = ap (items_seen p.keys p.values) fresh_slots.left;
    markers = refl;
    routes = routes_kept p restarted refl refl refl;
    ready = ready_kept p restarted refl refl;
  })

  pub restarted_fewer : nodes (seen restarted) ≤ nodes state
  restarted_fewer =
      let fewer = count_fewer (node_by p) (node_by restarted) p.keys 0 (λ i is. or_true (is_some (route_by p i)) _
      (only_route (is_some (route_by p i)) (is_some (told_by restarted i)) (said_by p.values (value_left slots.left i))
      (ap is_some (nothing_told (Some i)))
      (ap (λ (l : List SlotItem). said_by p.values (value_left l i)) fresh_slots.left) is)) in
      let old = nodes_seen p table ∙ sym (nodes_seen p table) ∙ ap nodes view in
      let counted = nodes_seen p table in
      let new = nodes_seen restarted restarted_kept in
      omega arith

-- ---- without a session

module _ (p : Parts) (table : IsTable p) (slots : Slots)
    (nows_length : length slots.nows ≡ length p.slots.nows) (sents_length : length slots.sents ≡ length p.slots.nows)
    (nows : (i : ℕ) → i < length p.slots.nows → link slots.nows i ≡ link p.slots.nows i % 2)
    (sents : (i : ℕ) → i < length p.slots.nows → link slots.sents i ≡ link p.slots.nows i % 2)
    (left : slots.left ≡ []) (even : slots.even_again ≡ false) (odd : slots.odd_again ≡ false)
    (room : slots.room ≡ p.slots.room) where
  beyond : (xs : List ℕ) (i : ℕ) → length xs ≤ i → link xs i ≡ 0
  beyond [] i past = refl
  beyond (x ∷ xs) zero past = absurd (omega arith)
  beyond (x ∷ xs) (suc i) past = beyond xs i (omega arith)

  halves : (xs : List ℕ) → length xs ≡ length p.slots.nows
      → ((i : ℕ) → i < length p.slots.nows → link xs i ≡ link p.slots.nows i % 2)
      → (i : ℕ) → link xs i ≡ link p.slots.nows i % 2
  halves xs same each i = elim (nat_lt i (length p.slots.nows)) as (λ t. nat_lt i (length p.slots.nows) ≡ t
      → link xs i ≡ link p.slots.nows i % 2) [
        | true ↦ λ test. each i (grind (arith, common_steps))
        | false ↦ λ test. let past : length p.slots.nows ≤ i = grind (arith, common_steps) in
            beyond xs i (omega arith) ∙ ap (λ n. n % 2) (sym (beyond p.slots.nows i past))
      ] refl

  below_two : (n : ℕ) → n % 2 < 2
  below_two n = omega arith

  now_parity : (i : ℕ) (key : Key) → key_at p.keys i ≡ Some key → link p.slots.nows i % 2 ≡ parity key
  now_parity i key here = ap (λ n. n % 2) (table.taken i key here).now
      ∙ (shown_is p.values table.kept p.caps key (chosen_at p.routes i)).parity_is

  pub fresh_down : IsFresh p None slots
  fresh_down =
      let now = halves slots.nows nows_length nows in
      let sent = halves slots.sents sents_length sents in
      record {
        nows_length = nows_length ∙ table.nows_length;
        sents_length = sents_length ∙ table.nows_length;
        room = room;
        left = left;
        even = even;
        odd = odd;
        sent = λ i. subst (λ n. n < 2) (sym (sent i)) (below_two (link p.slots.nows i));
        parity_is = λ i key here. let small = parity_small key in
            ap (λ n. n % 2) (sent i ∙ now_parity i key here) ∙ (omega arith);
        free = λ i none. subst (λ n. n < 2) (sym (now i)) (below_two (link p.slots.nows i));
        same = λ i none. sent i ∙ sym (now i);
        shown = λ i key here. now i ∙ now_parity i key here;
      }
