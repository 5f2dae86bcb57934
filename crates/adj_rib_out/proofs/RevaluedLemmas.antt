-- A table with other values, of which all stays that it uses, is as before but for what stands ready.
use Rattle.std.proofs.Common.{◌≡◌, ℕ, ◌-◌, ◌/◌, ◌+◌, ◌*◌, ◌<◌, Bool, true, false, List, [], ◌∷◌, cond, map}
use Rattle.std.proofs.Common.{Option, Some, None, length, refl, sym, ap, ap₂, subst, ◌∙◌}
use Rattle.std.specs.Prelude.{is_some, nat_lt}
use Rattle.std.specs.Option.{option_map}
use Rattle.std.proofs.lemmas.Bool.{ltb-true}
use Rattle.linked_pending.specs.Links.{link}
use Rattle.linked_pending.specs.Listing.{has}
use Rattle.linked_pending.proofs.ListingLemmas.{has_first, has_rest}
use Rattle.route_values.specs.declared.attrs.Attrs.{Attrs}
use Rattle.route_values.specs.declared.attrs.WireAttrs.{WireAttrs}
use Rattle.route_values.specs.declared.key.Key.{Key}
use Rattle.route_values.specs.declared.settings.Side.{Side}
use Rattle.route_values.specs.Caps.{Caps}
use Rattle.slot_batches.specs.Left.{values_of as values_left}
use Rattle.slot_batches.specs.declared.slots.Item.{Item as SlotItem}
use Rattle.adj_rib_out.specs.declared.chosen.Chosen.{Chosen}
use Rattle.adj_rib_out.specs.State.{Row, Route, Item, is_visible, route_of}
use Rattle.adj_rib_out.specs.Calls.{KeepsRoutes, KeepsSession, KeepsBatch}
use Rattle.adj_rib_out.specs.Nodes.{nodes}
use Rattle.adj_rib_out.specs.Places.{key_at, rows_from, row_of}
use Rattle.adj_rib_out.specs.Kept.{Parts, Values, AreKept, AreLeft, IsNumber, IsTable}
use Rattle.adj_rib_out.specs.Kept.{attrs_under, chosen_at, items_seen, number_by, parity}
use Rattle.adj_rib_out.specs.Kept.{route_by, route_in, seen, shown_number, told_by, wire_under, written_under}

-- what stands ready of written values
abbrev pub texts_of : Values → List (Option Attrs)
texts_of values = map (option_map (λ (value : Attrs × ℕ). value.0)) values.written

-- the same table with other values, and with other room
abbrev pub revalued : Parts → Values → ℕ → Parts
revalued p values room = record p { values = values; slots = record p.slots { room = room } }

-- what a table uses of its values stands among others too
pub record StaysUsed (p : Parts) (values : Values) : Type 0 where
  pub side : values.side ≡ p.values.side
  pub kept : AreKept values
  pub chosen : (place : ℕ) (chosen : Chosen) → chosen_at p.routes place ≡ Some chosen
      → written_under values chosen.value ≡ written_under p.values chosen.value
  pub sent : (place : ℕ) → 1 < link p.slots.sents place
      → wire_under values (link p.slots.sents place / 2 - 1) ≡ wire_under p.values (link p.slots.sents place / 2 - 1)
  pub left : (number : ℕ) → has number (values_left p.slots.left) ≡ true → 1 < number
      → wire_under values (number / 2 - 1) ≡ wire_under p.values (number / 2 - 1)

-- rows are alike where what each place has is
rows_alike : (route other_route : ℕ → Option Route) (told other_told : ℕ → Option WireAttrs)
    → ((n : ℕ) → route n ≡ other_route n) → ((n : ℕ) → told n ≡ other_told n) → (keys : List (Option Key)) (first : ℕ)
    → rows_from route told keys first ≡ rows_from other_route other_told keys first
rows_alike route other_route told other_told routes tolds [] first = refl
rows_alike route other_route told other_told routes tolds (None ∷ keys) first =
    ap (λ (rows : List (Option Row)). None ∷ rows)
    (rows_alike route other_route told other_told routes tolds keys (first + 1))
rows_alike route other_route told other_told routes tolds (Some key ∷ keys) first =
    ap₂ (λ (row : Row) (rows : List (Option Row)). Some row ∷ rows)
    (ap₂ (λ (r : Option Route) (t : Option WireAttrs). row_of key r t) (routes first) (tolds first))
    (rows_alike route other_route told other_told routes tolds keys (first + 1))

module _ (old new : Values) where
  attrs_alike : (number : ℕ) → (1 < number → wire_under new (number / 2 - 1) ≡ wire_under old (number / 2 - 1))
      → attrs_under new number ≡ attrs_under old number
  attrs_alike number same = elim (nat_lt 1 number) as (λ (t : Bool). nat_lt 1 number ≡ t
      → cond t (wire_under new (number / 2 - 1)) None ≡ cond t (wire_under old (number / 2 - 1)) None) [
        | true ↦ λ above. same (ltb-true 1 number above)
        | false ↦ λ below. refl
      ] refl

  number_alike : (parity number : ℕ) → (1 < number → wire_under new (number / 2 - 1) ≡ wire_under old (number / 2 - 1))
      → IsNumber old parity number → IsNumber new parity number
  number_alike parity number same is = record {
    parity_is = is.parity_is;
    stands = λ above. ap is_some (same above) ∙ is.stands above;
  }

  routes_alike : new.side ≡ old.side → (chosen : Option Chosen)
      → ((c : Chosen) → chosen ≡ Some c → written_under new c.value ≡ written_under old c.value)
      → route_in new chosen ≡ route_in old chosen
  routes_alike side None same = refl
  routes_alike side (Some c) same = ap₂ (λ (s : Side) (value : Option (Attrs × ℕ)).
      option_map (λ (v : Attrs × ℕ). route_of s v.0 c.owner) value) side (same c refl)

  shown_alike : (caps : Option Caps) (key : Key) (chosen : Option Chosen)
      → ((c : Chosen) → chosen ≡ Some c → written_under new c.value ≡ written_under old c.value)
      → shown_number caps new key chosen ≡ shown_number caps old key chosen
  shown_alike None key chosen same = refl
  shown_alike (Some caps) key None same = refl
  shown_alike (Some caps) key (Some c) same = ap (λ (value : Option (Attrs × ℕ)).
      cond (is_visible caps key) (number_by (parity key) value) (parity key)) (same c refl)

  module _ (keys : List (Option Key)) where
    items_alike : (items : List SlotItem) → ((number : ℕ) → has number (values_left items) ≡ true → 1 < number
        → wire_under new (number / 2 - 1) ≡ wire_under old (number / 2 - 1))
        → items_seen keys new items ≡ items_seen keys old items
    items_alike [] same = refl
    items_alike (item ∷ items) same =
        ap₂ (λ (attrs : Option WireAttrs) (rest : List Item). elim (key_at keys item.slot) [
          | Some key ↦ record { key = key; says = option_map (λ (a : WireAttrs). (item.value, a)) attrs } ∷ rest
          | None ↦ rest
        ])
        (attrs_alike item.value (same item.value (has_first item.value (values_left items))))
        (items_alike items (λ number there. same number (has_rest number item.value (values_left items) there)))

    left_alike : (items : List SlotItem) → ((number : ℕ) → has number (values_left items) ≡ true → 1 < number
        → wire_under new (number / 2 - 1) ≡ wire_under old (number / 2 - 1))
        → AreLeft keys old items → AreLeft keys new items
    left_alike [] same left = tt
    left_alike (item ∷ items) same left = (
      record {
        key = left.0.key;
        stands = left.0.stands;
        number = number_alike (parity left.0.key) item.value
            (same item.value (has_first item.value (values_left items))) left.0.number;
      },
      left_alike items (λ number there. same number (has_rest number item.value (values_left items) there)) left.1,
    )

module _ (p : Parts) (values : Values) (room : ℕ) (stays : StaysUsed p values) where
  route_stays : (place : ℕ) → route_in values (chosen_at p.routes place) ≡ route_by p place
  route_stays place = routes_alike p.values values stays.side (chosen_at p.routes place) (stays.chosen place)

  told_stays : (place : ℕ) → attrs_under values (link p.slots.sents place) ≡ told_by p place
  told_stays place = attrs_alike p.values values (link p.slots.sents place) (stays.sent place)

  -- only what stands ready is seen to be other
  pub seen_stays : seen (revalued p values room) ≡ record (seen p) { values = texts_of values }
  seen_stays = ap₂ (λ (rows : List (Option Row)) (left : List Item). record (seen p) {
    side = values.side;
    rows = rows;
    values = texts_of values;
    left = left;
  }) (rows_alike (route_by (revalued p values room)) (route_by p) (told_by (revalued p values room)) (told_by p)
      route_stays told_stays p.keys 0)
      (items_alike p.values values p.keys p.slots.left stays.left)
      ∙ ap (λ (side : Side). record (seen p) { side = side; values = texts_of values }) stays.side

  pub routes_stay : KeepsRoutes (seen p) (seen (revalued p values room))
  routes_stay = subst (KeepsRoutes (seen p)) (sym seen_stays) (record { side = refl; routes = λ key. refl })

  pub session_stays : KeepsSession (seen p) (seen (revalued p values room))
  session_stays = subst (KeepsSession (seen p)) (sym seen_stays) (record { session = refl; told = λ key. refl })

  pub batch_stays : KeepsBatch (seen p) (seen (revalued p values room))
  batch_stays = subst (KeepsBatch (seen p)) (sym seen_stays) (record { left = refl; markers = refl })

  pub nodes_stay : nodes (seen (revalued p values room)) ≡ nodes (seen p)
  nodes_stay = ap nodes seen_stays

  -- ---- what holds of it

  pub table_stays : IsTable p → ((place : ℕ) (key : Key) → key_at p.keys place ≡ Some key
      → 2 * length values.wires + 1 < room) → IsTable (revalued p values room)
  table_stays table roomy = record {
    once = table.once;
    kept = stays.kept;
    room = roomy;
    nows_length = table.nows_length;
    sents_length = table.sents_length;
    routes_length = table.routes_length;
    vacant = λ place free. let was = table.vacant place free in record {
      now = was.now;
      sent = was.sent;
      chosen = was.chosen;
    };
    taken = λ place key here. let was = table.taken place key here in record {
      now = was.now ∙ sym (shown_alike p.values values p.caps key (chosen_at p.routes place) (stays.chosen place));
      sent = number_alike p.values values (parity key) (link p.slots.sents place) (stays.sent place) was.sent;
    };
    chosen = λ place chosen is. ap is_some (stays.chosen place chosen is) ∙ table.chosen place chosen is;
    left = left_alike p.values values p.keys p.slots.left stays.left table.left;
    left_once = table.left_once;
    left_together = table.left_together;
    down = table.down;
    ipv4_stale = table.ipv4_stale;
    ipv6_stale = table.ipv6_stale;
  }
