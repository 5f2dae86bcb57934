-- The table behind a freeze.
use Rattle.std.proofs.Common.{◌≡◌, ◌==◌, ℕ, ◌<◌, ◌%◌, Bool, true, false, List, [], ◌∷◌}
use Rattle.std.proofs.Common.{cond, Option, Some, None, refl, sym, ap, ap₂, subst, ◌∙◌, arith, inl, inr}
use Rattle.std.specs.Option.{option_map}
use Rattle.std.specs.Prelude.{is_some, slice_get, filter, nat_lt, ◌||◌, ◌&&◌, not}
use Rattle.std.proofs.lemmas.Bool.{false≢true, eq-eqb, eqb-true, eqb-false, and_parts}
use Rattle.std.proofs.lemmas.Grind.{common_steps}
use Rattle.linked_pending.specs.Links.{link}
use Rattle.route_values.specs.declared.addr.Family.{Family}
use Rattle.route_values.specs.declared.addr.Family.TheVariants.{Ipv4, Ipv6}
use Rattle.route_values.specs.declared.attrs.WireAttrs.{WireAttrs}
use Rattle.route_values.specs.declared.key.Key.{Key}
use Rattle.route_values.specs.Caps.{Caps}
use Rattle.route_values.specs.Key.{family_of_key}
use Rattle.slot_batches.specs.Left.{value_left}
use Rattle.slot_batches.specs.Slots.{Slots, Opens, owes, flag_of, is_owed}
use Rattle.slot_batches.specs.declared.slots.Item.{Item as SlotItem}
use Rattle.adj_rib_out.specs.State.{State, Session, Route, Item, is_visible}
use Rattle.adj_rib_out.specs.Batch.{owed_markers, owes_marker}
use Rattle.adj_rib_out.specs.Calls.{Freezes, is_open, session_frozen}
use Rattle.adj_rib_out.specs.Nodes.{nodes}
use Rattle.adj_rib_out.specs.Places.{key_at}
use Rattle.adj_rib_out.specs.Kept.{Parts, IsTable, AreLeft, IsSilent, seen, attrs_under, parity}
use Rattle.adj_rib_out.specs.Kept.{items_seen, owes_end, markers_of, parity_of, route_by, told_by, session_of}
use Rattle.adj_rib_out.specs.Kept.{shown_number, chosen_at}
use Rattle.adj_rib_out.proofs.RowLemmas.{stands, none_some}
use Rattle.adj_rib_out.proofs.NumberLemmas.{attrs_shown, shown_in, parity_small}
use Rattle.adj_rib_out.proofs.KeepLemmas.{ready_kept, routes_kept, told_kept}
use Rattle.adj_rib_out.proofs.NodeLemmas.{count_same}
use Rattle.adj_rib_out.proofs.SeenNodeLemmas.{node_by, said_by, nodes_seen}
use Rattle.adj_rib_out.proofs.GroupLemmas.{seen_by}
use Rattle.adj_rib_out.proofs.PassLemmas.{cons_nil}
use Rattle.adj_rib_out.proofs.OwedLemmas.{flag_by, flag_is, or_cases, owes_other, owes_again, now_number}
use Rattle.adj_rib_out.proofs.FreezeLemmas.{all_left, left_number, below_nows, cond_some, idle_owes, owed_keys}
use Rattle.adj_rib_out.proofs.FreezeLemmas.{said_shown, once_left, together_left, alike_left}

nil_of : (left : List SlotItem) → is_some (slice_get left 0) ≡ false → left ≡ []
nil_of [] is = refl
nil_of (item ∷ rest) is = absurd (false≢true (sym is))

nil_if : (left : List SlotItem) → ((slot number : ℕ) → value_left left slot ≡ Some number → ⊥) → left ≡ []
nil_if [] none = refl
nil_if (item ∷ rest) none = absurd (none item.slot item.value
    (ap (λ (t : Bool). cond t (Some item.value) (value_left rest item.slot)) (eq-eqb item.slot item.slot refl)))

cond_none : (test : Bool) (number : ℕ) → None ≡ cond test (Some number) None → test ≡ false
cond_none true number is = absurd (none_some is)
cond_none false number is = refl

-- a slot that is to be sent again and isn't owed has nothing that was sent
less : (a b : ℕ) → owes a b true ≡ false → a < 2
less a b not_owed = elim (nat_lt 1 b) as (λ t. nat_lt 1 b ≡ t → a < 2) [
  | true ↦ λ test. let above : 1 < b = grind (arith, common_steps) in
      absurd (false≢true (sym not_owed ∙ owes_again a b above))
  | false ↦ λ test. let below : b < 2 = grind (arith, common_steps) in
      elim (a == b) as (λ t. (a == b) ≡ t → a < 2) [
        | true ↦ λ same. let is = eqb-true a b same in omega arith
        | false ↦ λ differs. absurd (false≢true (sym not_owed ∙ owes_other a b true (eqb-false a b differs)))
      ] refl
] refl

markers_by : (f : Family → Bool) → markers_of (f Ipv4) (f Ipv6) ≡ filter f (Ipv4 ∷ Ipv6 ∷ [])
markers_by f = elim (f Ipv4) as (λ a. markers_of a (f Ipv6)
    ≡ cond a (Ipv4 ∷ filter f (Ipv6 ∷ [])) (filter f (Ipv6 ∷ []))) [
      | true ↦ elim (f Ipv6) as (λ b. markers_of true b ≡ Ipv4 ∷ cond b (Ipv6 ∷ []) []) [ true ↦ refl | false ↦ refl ]
      | false ↦ elim (f Ipv6) as (λ b. markers_of false b ≡ cond b (Ipv6 ∷ []) []) [ true ↦ refl | false ↦ refl ]
    ]

or_falses : (a b : Bool) → (a || b) ≡ false → (a ≡ false) × (b ≡ false)
or_falses true b is = absurd (false≢true (sym is))
or_falses false b is = (refl, is)

not_true : (b : Bool) → not b ≡ true → b ≡ false
not_true true is = absurd (false≢true is)
not_true false is = refl

or_right : (b : Bool) → (b || true) ≡ true
or_right true = refl
or_right false = refl

or_none : (b : Bool) → (b || false) ≡ b
or_none true = refl
or_none false = refl

and_none : (b : Bool) → (b && false) ≡ false
and_none true = refl
and_none false = refl

and_true : (b : Bool) → (b && true) ≡ b
and_true true = refl
and_true false = refl

module _ (p : Parts) (table : IsTable p) (left : List SlotItem) (opens : Opens p.slots left) where
  -- without a session nothing is left
  sent_small : p.caps ≡ None → (place : ℕ) (family : Family) → link p.slots.sents place % 2 ≡ parity_of family
      → link p.slots.sents place < 2
  sent_small none place Ipv4 is = (table.down none).0.sent place is
  sent_small none place Ipv6 is = (table.down none).1.sent place is

  down_left : p.caps ≡ None → (slot number : ℕ) → value_left left slot ≡ Some number → ⊥
  down_left none slot number is =
      let item = left_number p table left opens slot number is in
      let below = below_nows p table left opens slot item.key item.stands in
      let owed = cond_some (is_owed p.slots slot) (link p.slots.nows slot) number (sym (opens.owed slot below) ∙ is) in
      let taken = table.taken slot item.key item.stands in
      let now : link p.slots.nows slot ≡ parity item.key = taken.now
      ∙ ap (λ (o : Option Caps). shown_number o p.values item.key (chosen_at p.routes slot)) none in
      let small = sent_small none slot (family_of_key item.key) taken.sent.parity_is in
      let parity_is = taken.sent.parity_is in
      let parity_below = parity_small item.key in
      false≢true (sym (idle_owes (link p.slots.sents slot) (link p.slots.nows slot)
      (flag_of p.slots.even_again p.slots.odd_again (link p.slots.nows slot)) (omega arith) (omega arith)) ∙ owed.0)

  -- a family that is to be sent again, and of which nothing is owed, is silent
  silent_place : (family : Family) → left ≡ []
      → flag_by p.slots.even_again p.slots.odd_again family ≡ true → (place : ℕ) (key : Key)
      → key_at p.keys place ≡ Some key → link p.slots.sents place % 2 ≡ parity_of family
      → link p.slots.sents place < 2
  silent_place family none flag place key here is =
      let number = now_number p table key place (stands p.keys key place table.once here) in
      let same : link p.slots.nows place % 2 ≡ parity_of family =
      number.parity_is ∙ sym (table.taken place key here).sent.parity_is ∙ is in
      less (link p.slots.sents place) (link p.slots.nows place)
      (ap (owes (link p.slots.sents place) (link p.slots.nows place))
      (sym (flag_is p.slots.even_again p.slots.odd_again (link p.slots.nows place) family same ∙ flag))
      ∙ cond_none (is_owed p.slots place) (link p.slots.nows place)
      (sym (ap (λ (l : List SlotItem). value_left l place) none)
      ∙ opens.owed place (below_nows p table left opens place key here)))

  silent_by : (family : Family) → left ≡ []
      → flag_by p.slots.even_again p.slots.odd_again family ≡ true
      → IsSilent p.slots.sents left (parity_of family)
  silent_by family none flag = record {
    sent = λ place is. elim (key_at p.keys place) as (λ o. key_at p.keys place ≡ o → link p.slots.sents place < 2) [
      | None ↦ λ free. subst (λ n. n < 2) (sym (table.vacant place free).sent) (table.vacant place free).now
      | Some key ↦ λ here. silent_place family none flag place key here is
    ] refl;
    none = none;
  }

  module _ (any : Bool) (is_any : any ≡ (is_some (slice_get left 0)
      || (owes_end p.caps p.begun Ipv4 || owes_end p.caps p.begun Ipv6))) where
    abbrev pub frozen : Parts
    frozen = record p {
      slots = record p.slots { left = left; even_again = false; odd_again = false };
      begun = p.begun || any;
      ipv4_stale = (p.slots.even_again || p.ipv4_stale) && not any;
      ipv6_stale = (p.slots.odd_again || p.ipv6_stale) && not any;
      ipv4_marker = owes_end p.caps p.begun Ipv4;
      ipv6_marker = owes_end p.caps p.begun Ipv6;
    }

    left_nil : any ≡ false → left ≡ []
    left_nil none = nil_of left (or_falses (is_some (slice_get left 0)) _ (sym is_any ∙ none)).0

    stale4 : frozen.ipv4_stale ≡ true → IsSilent p.slots.sents left 0
    stale4 stale =
        let parts = and_parts (p.slots.even_again || p.ipv4_stale) (not any) stale in
        let none = left_nil (not_true any parts.1) in
        elim (or_cases p.slots.even_again p.ipv4_stale parts.0) [
          | inl flag ↦ silent_by Ipv4 none flag
          | inr was ↦ record { sent = (table.ipv4_stale was).sent; none = none }
        ]

    stale6 : frozen.ipv6_stale ≡ true → IsSilent p.slots.sents left 1
    stale6 stale =
        let parts = and_parts (p.slots.odd_again || p.ipv6_stale) (not any) stale in
        let none = left_nil (not_true any parts.1) in
        elim (or_cases p.slots.odd_again p.ipv6_stale parts.0) [
          | inl flag ↦ silent_by Ipv6 none flag
          | inr was ↦ record { sent = (table.ipv6_stale was).sent; none = none }
        ]

    pub frozen_kept : IsTable frozen
    frozen_kept = record {
      once = table.once;
      kept = table.kept;
      room = table.room;
      nows_length = table.nows_length;
      sents_length = table.sents_length;
      routes_length = table.routes_length;
      vacant = λ i free. record {
        now = (table.vacant i free).now;
        sent = (table.vacant i free).sent;
        chosen = (table.vacant i free).chosen;
      };
      taken = λ i k here. record { now = (table.taken i k here).now; sent = (table.taken i k here).sent };
      chosen = table.chosen;
      left = all_left p table left opens;
      left_once = opens.once;
      left_together = opens.together;
      down = λ none.
          let nil = nil_if left (down_left none) in (
            record { sent = (table.down none).0.sent; none = nil },
            record { sent = (table.down none).1.sent; none = nil },
            ap (λ (o : Option Caps). markers_of (owes_end o p.begun Ipv4) (owes_end o p.begun Ipv6)) none,
          );
      ipv4_stale = stale4;
      ipv6_stale = stale6;
    }

    -- ---- what is seen

    first_seen : (items : List SlotItem) → AreLeft p.keys p.values items
        → is_some (slice_get (items_seen p.keys p.values items) 0) ≡ is_some (slice_get items 0)
    first_seen [] each = refl
    first_seen (item ∷ rest) each = ap (λ (l : List Item). is_some (slice_get l 0))
        (seen_by p.values table.kept p.keys table.once item rest each.0)

    open_by : (items : List Item) (ipv4 ipv6 : Bool)
        → elim items [ _ ∷ _ ↦ true | [] ↦ elim (markers_of ipv4 ipv6) [ _ ∷ _ ↦ true | [] ↦ false ] ]
        ≡ (is_some (slice_get items 0) || (ipv4 || ipv6))
    open_by (item ∷ items) ipv4 ipv6 = refl
    open_by [] true true = refl
    open_by [] true false = refl
    open_by [] false true = refl
    open_by [] false false = refl

    open_is : is_open (seen frozen) ≡ any
    open_is = open_by (items_seen p.keys p.values left) frozen.ipv4_marker frozen.ipv6_marker
        ∙ ap (λ (b : Bool). b || (frozen.ipv4_marker || frozen.ipv6_marker))
        (first_seen left (all_left p table left opens)) ∙ sym is_any

    markers_are : (caps : Option Caps) → markers_of (owes_end caps p.begun Ipv4) (owes_end caps p.begun Ipv6)
        ≡ owed_markers (option_map (session_of p) caps)
    markers_are None = markers_by (owes_marker None)
    markers_are (Some caps) = markers_by (owes_marker (Some (session_of p caps)))

    -- the session by its flags
    abbrev session_with : Caps → Bool → Bool → Bool → Session
    session_with caps begun ipv4 ipv6 = record { caps = caps; begun = begun; ipv4_again = ipv4; ipv6_again = ipv6 }

    session_by : (caps : Option Caps) (opened : Bool)
        → option_map (λ (c : Caps). session_with c (p.begun || opened)
        ((p.slots.even_again || p.ipv4_stale) && not opened) ((p.slots.odd_again || p.ipv6_stale) && not opened)) caps
        ≡ session_frozen opened (option_map (session_of p) caps)
    session_by None true = refl
    session_by None false = refl
    session_by (Some caps) true = ap (λ (b : Bool). Some (session_with caps b
        ((p.slots.even_again || p.ipv4_stale) && false) ((p.slots.odd_again || p.ipv6_stale) && false)))
        (or_right p.begun) ∙ ap₂ (λ (x y : Bool). Some (session_with caps true x y))
        (and_none (p.slots.even_again || p.ipv4_stale)) (and_none (p.slots.odd_again || p.ipv6_stale))
    session_by (Some caps) false = ap (λ (b : Bool). Some (session_with caps b
        ((p.slots.even_again || p.ipv4_stale) && true) ((p.slots.odd_again || p.ipv6_stale) && true)))
        (or_none p.begun) ∙ ap₂ (λ (x y : Bool). Some (session_with caps p.begun x y))
        (and_true (p.slots.even_again || p.ipv4_stale)) (and_true (p.slots.odd_again || p.ipv6_stale))

    pub frozen_freezes : Freezes (seen p) (seen frozen)
    frozen_freezes = record {
      opens = record {
        owed = owed_keys p table left opens;
        says = said_shown p table left opens;
        once = once_left p table left opens;
        together = together_left p table left opens;
        numbered = alike_left p table left opens;
        markers = markers_are p.caps;
      };
      session = session_by p.caps any
          ∙ ap (λ (t : Bool). session_frozen t (option_map (session_of p) p.caps)) (sym open_is);
      told = told_kept p frozen refl refl refl;
      routes = routes_kept p frozen refl refl refl;
      ready = ready_kept p frozen refl refl;
    }

    -- ---- nodes

    shown_some : (caps : Option Caps) (key : Key) (route : Option Route)
        → is_some (shown_in p.values table.kept caps key route) ≡ true → is_some route ≡ true
    shown_some None key route is = absurd (false≢true is)
    shown_some (Some caps) key None is = absurd (false≢true (sym (elim (is_visible caps key) as (λ t.
        is_some (cond {A = Option WireAttrs} t None None) ≡ false) [ true ↦ refl | false ↦ refl ]) ∙ is))
    shown_some (Some caps) key (Some route) is = refl

    said_route : (place : ℕ) (o : Option ℕ) → value_left left place ≡ o → said_by p.values o ≡ true
        → is_some (route_by p place) ≡ true
    said_route place None is said = absurd (false≢true said)
    said_route place (Some number) is said =
        let item = left_number p table left opens place number is in
        let below = below_nows p table left opens place item.key item.stands in
        let owed = cond_some (is_owed p.slots place) (link p.slots.nows place) number
        (sym (opens.owed place below) ∙ is) in
        shown_some p.caps item.key (route_by p place) (ap is_some (sym (attrs_shown p.values table.kept p.caps item.key
        (chosen_at p.routes place)) ∙ ap (attrs_under p.values)
        (sym (table.taken place item.key item.stands).now ∙ owed.1)) ∙ said)

    node_with : (route told said : Bool) → (said ≡ true → route ≡ true) → (route || (told || said))
        ≡ (route || (told || false))
    node_with true told said then = refl
    node_with false told true then = absurd (false≢true (then refl))
    node_with false told false then = refl

    module _ (closed : p.slots.left ≡ []) where
      node_is : (place : ℕ) → node_by frozen place ≡ node_by p place
      node_is place = node_with (is_some (route_by p place)) (is_some (told_by p place))
          (said_by p.values (value_left left place)) (said_route place (value_left left place) refl)
          ∙ ap (λ (l : List SlotItem). is_some (route_by p place) || (is_some (told_by p place)
          || said_by p.values (value_left l place))) (sym closed)

      pub frozen_nodes : nodes (seen frozen) ≡ nodes (seen p)
      frozen_nodes = nodes_seen frozen frozen_kept
          ∙ count_same (node_by p) (node_by frozen) p.keys 0 (λ place from. node_is place)
          ∙ sym (nodes_seen p table)

-- ---- the call

not_open : (items : List Item) (state : State) → state.left ≡ items → is_open state ≡ false → items ≡ []
not_open [] state is closed = refl
not_open (item ∷ items) state is closed = absurd (false≢true (sym closed ∙ ap (λ (l : List Item). elim l [
  | _ ∷ _ ↦ true
  | [] ↦ elim state.markers [ _ ∷ _ ↦ true | [] ↦ false ]
]) is))

module _ (p : Parts) (table : IsTable p) (state : State) (view : seen p ≡ state) (closed : is_open state ≡ false) where
  none_left : (items : List SlotItem) → AreLeft p.keys p.values items → items_seen p.keys p.values items ≡ []
      → items ≡ []
  none_left [] each is = refl
  none_left (item ∷ rest) each is = absurd (cons_nil (sym (seen_by p.values table.kept p.keys table.once item rest
      each.0) ∙ is))

  pub left_closed : p.slots.left ≡ []
  left_closed = none_left p.slots.left table.left (not_open (items_seen p.keys p.values p.slots.left) (seen p) refl
      (ap is_open view ∙ closed))

  module _ (slots : Slots) (opens : Opens p.slots slots.left)
      (rest : slots ≡ record p.slots { left = slots.left; even_again = false; odd_again = false })
      (any begun ipv4_stale ipv6_stale ipv4 ipv6 : Bool)
      (is_4 : ipv4 ≡ owes_end p.caps p.begun Ipv4) (is_6 : ipv6 ≡ owes_end p.caps p.begun Ipv6)
      (is_any : any ≡ (is_some (slice_get slots.left 0) || (ipv4 || ipv6)))
      (is_begun : begun ≡ (p.begun || any))
      (is_stale4 : ipv4_stale ≡ ((p.slots.even_again || p.ipv4_stale) && not any))
      (is_stale6 : ipv6_stale ≡ ((p.slots.odd_again || p.ipv6_stale) && not any)) where
    abbrev pub with : Slots → Bool → Bool → Bool → Bool → Bool → Parts
    with s b x y m n = record p {
      slots = s;
      begun = b;
      ipv4_stale = x;
      ipv6_stale = y;
      ipv4_marker = m;
      ipv6_marker = n;
    }

    abbrev rested : Slots
    rested = record p.slots { left = slots.left; even_again = false; odd_again = false }

    any_is : any ≡ (is_some (slice_get slots.left 0)
        || (owes_end p.caps p.begun Ipv4 || owes_end p.caps p.begun Ipv6))
    any_is = is_any ∙ ap₂ (λ (a b : Bool). is_some (slice_get slots.left 0) || (a || b)) is_4 is_6

    abbrev pub made : Parts
    made = with slots begun ipv4_stale ipv6_stale ipv4 ipv6

    made_is : frozen p table slots.left opens any any_is ≡ made
    made_is = sym (ap (λ (s : Slots). with s begun ipv4_stale ipv6_stale ipv4 ipv6) rest
        ∙ ap₂ (λ (b x : Bool). with rested b x ipv6_stale ipv4 ipv6) is_begun is_stale4
        ∙ ap₂ (λ (y m : Bool). with rested (p.begun || any) ((p.slots.even_again || p.ipv4_stale) && not any) y m ipv6)
        is_stale6 is_4
        ∙ ap (λ (n : Bool). with rested (p.begun || any) ((p.slots.even_again || p.ipv4_stale) && not any)
        ((p.slots.odd_again || p.ipv6_stale) && not any) (owes_end p.caps p.begun Ipv4) n) is_6)

    pub made_kept : IsTable made
    made_kept = subst IsTable made_is (frozen_kept p table slots.left opens any any_is)

    pub made_freezes : Freezes state (seen made)
    made_freezes = subst (λ (s : State). Freezes s (seen made)) view
        (subst (λ (q : Parts). Freezes (seen p) (seen q)) made_is (frozen_freezes p table slots.left opens any any_is))

    pub made_nodes : nodes (seen made) ≡ nodes state
    made_nodes = sym (ap (λ (q : Parts). nodes (seen q)) made_is)
        ∙ frozen_nodes p table slots.left opens any any_is left_closed ∙ ap nodes view
