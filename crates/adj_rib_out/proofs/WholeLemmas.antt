-- What holds of a table with its notes and counts, behind each call.
use Rattle.std.proofs.Common.{◌≡◌, ℕ, ◌+◌, ◌<◌, Bool, true, List, [], ◌∷◌, cond, Option, Some, None, length}
use Rattle.std.proofs.Common.{refl, sym, ap, subst, ◌∙◌, drop, arith}
use Rattle.std.specs.Prelude.{◌-◌, ◌/◌, is_some, IsSome, slice_set, slice_get, MatchOption, ◌||◌}
use Rattle.std.specs.List.{sum_by}
use Rattle.linked_pending.specs.Links.{link}
use Rattle.linked_pending.specs.Listing.{has}
use Rattle.value_pool.specs.Pool.{noted}
use Rattle.route_values.specs.declared.key.Key.{Key}
use Rattle.route_values.specs.Caps.{Caps}
use Rattle.slot_batches.specs.Slots.{Slots}
use Rattle.slot_batches.specs.declared.slots.Item.{Item as SlotItem}
use Rattle.adj_rib_out.specs.declared.chosen.Chosen.{Chosen}
use Rattle.adj_rib_out.specs.State.{State}
use Rattle.adj_rib_out.specs.Counts.{IsWhole, KeysNoted, RoutesCounted, UsesCounted, for_wire}
use Rattle.adj_rib_out.specs.Kept.{Parts, Values, IsTable, seen, chosen_at, keeps, wire_under}
use Rattle.adj_rib_out.specs.Places.{key_at}
use Rattle.adj_rib_out.proofs.RowLemmas.{none_some, some_is}
use Rattle.adj_rib_out.proofs.NotedLemmas as known
use Rattle.adj_rib_out.proofs.PassLemmas.{HasPassed}
use Rattle.adj_rib_out.proofs.RestartLemmas.{IsFresh, restarted, restarted_kept}
use Rattle.adj_rib_out.proofs.TallyLemmas as tally

-- ---- the same where keys and values are as before

module _ (q : Parts) (keys : List (Option Key)) (values : Values) (same_keys : keys ≡ q.keys)
    (same_values : values ≡ q.values) where
  abbrev pub moved : Parts
  moved = record q { keys = keys; values = values }

  pub moved_is : q ≡ moved
  moved_is = sym (ap (λ (k : List (Option Key)). record q { keys = k; values = values }) same_keys
      ∙ ap (λ (v : Values). record q { values = v }) same_values)

  pub move : (P : Parts → Type 0) → P q → P moved
  move P holds = subst P moved_is holds

  pub whole_moved : (places routes uses places_now routes_now uses_now : List ℕ) → places_now ≡ places
      → routes_now ≡ routes → uses_now ≡ uses → IsWhole q places routes uses → IsWhole moved places_now routes_now
      uses_now
  whole_moved places routes uses places_now routes_now uses_now places_are routes_are uses_are whole =
      subst (λ (us : List ℕ). IsWhole moved places_now routes_now us) (sym uses_are)
      (subst (λ (rs : List ℕ). IsWhole moved places_now rs uses) (sym routes_are)
      (subst (λ (ps : List ℕ). IsWhole moved ps routes uses) (sym places_are)
      (move (λ (r : Parts). IsWhole r places routes uses) whole)))

-- the wire attributes stand that were sent of a slot
pub sent_stands : (p : Parts) → IsTable p → (place : ℕ) → 1 < link p.slots.sents place
    → IsSome (wire_under p.values (link p.slots.sents place / 2 - 1))
sent_stands p table place = at (key_at p.keys place) refl
  where
    at : (o : Option Key) → key_at p.keys place ≡ o → 1 < link p.slots.sents place
        → IsSome (wire_under p.values (link p.slots.sents place / 2 - 1))
    at None none above =
        let now = (table.vacant place none).now in
        let same = (table.vacant place none).sent in
        absurd (omega arith)
    at (Some key) here above = (table.taken place key here).sent.stands above

first_of : (left : List SlotItem) (item : SlotItem) → slice_get left 0 ≡ Some item → left ≡ item ∷ drop 1 left
first_of [] item is = absurd (none_some is)
first_of (first ∷ rest) item is = ap (λ (i : SlotItem). i ∷ rest) (some_is is)

module _ (p : Parts) (places routes uses : List ℕ) (whole : IsWhole p places routes uses) where
  -- ---- a key is given a route, or loses it

  module _ (place : ℕ) (r : Option Chosen) (nows : List ℕ) (rs : List (Option Chosen))
      (chose : rs ≡ slice_set p.routes place r) (slots : Slots) (show : slots ≡ record p.slots { nows = nows }) where
    abbrev pub given : Parts
    given = record p { routes = rs; slots = slots }

    pub given_whole : IsTable given → (places_now counts : List ℕ)
        → KeysNoted (record p { routes = slice_set p.routes place r; slots = record p.slots { nows = nows } })
        places_now
        → RoutesCounted rs counts → IsWhole given places_now counts uses
    given_whole table places_now counts keys counted = record {
      table = table;
      keys = subst (λ (s : Slots). KeysNoted (record p { routes = rs; slots = s }) places_now) (sym show)
          (subst (λ (l : List (Option Chosen)). KeysNoted (record p {
            routes = l;
            slots = record p.slots { nows = nows };
          }) places_now) (sym chose) keys);
      routes_counted = counted;
      uses_counted = subst (λ (s : Slots). UsesCounted p.values.written s.sents uses) (sym show) whole.uses_counted;
    }

  -- ---- an item of the open batch is passed

  module _ (slots : Slots) (pass : HasPassed p.slots slots) (item : SlotItem)
      (here : slice_get p.slots.left 0 ≡ Some item) (within : item.slot < length p.slots.sents) where
    abbrev behind : Slots
    behind = record p.slots {
      sents = slice_set p.slots.sents item.slot item.value;
      left = drop 1 p.slots.left;
    }

    slots_are : slots ≡ behind
    slots_are = subst (λ (o : Option SlotItem). MatchOption o (slots ≡ p.slots) (λ i. slots ≡ record p.slots {
      sents = slice_set p.slots.sents i.slot i.value;
      left = drop 1 p.slots.left;
    })) here pass

    pub passed_whole : IsTable (record p { slots = slots }) → (stands : Bool)
        → stands ≡ (is_some (chosen_at p.routes item.slot) || keeps slots item.slot) → (lost : List ℕ)
        → UsesCounted p.values.written (slice_set p.slots.sents item.slot item.value) lost
        → IsWhole (record p { slots = slots }) (cond stands places (noted item.slot places)) routes lost
    passed_whole table stands stands_is lost counted = record {
      table = table;
      keys = subst (λ (s : Slots). KeysNoted (record p { slots = s }) (cond stands places (noted item.slot places)))
          (sym slots_are) (known.passed_noted p places whole.keys item (drop 1 p.slots.left)
          (first_of p.slots.left item here) within stands
          (stands_is ∙ ap (λ (s : Slots). is_some (chosen_at p.routes item.slot) || keeps s item.slot) slots_are));
      routes_counted = whole.routes_counted;
      uses_counted = subst (λ (s : Slots). UsesCounted p.values.written s.sents lost) (sym slots_are) counted;
    }

  -- ---- routes and what was sent stay

  module _ (q : Parts) (table : IsTable q) (keys : q.keys ≡ p.keys) (rs : q.routes ≡ p.routes)
      (values : q.values ≡ p.values) (sents : q.slots.sents ≡ p.slots.sents) where
    rest_whole : KeysNoted q places → IsWhole q places routes uses
    rest_whole noted_keys = record {
      table = table;
      keys = noted_keys;
      routes_counted = subst (λ (l : List (Option Chosen)). RoutesCounted l routes) (sym rs) whole.routes_counted;
      uses_counted = subst (λ (l : List ℕ). UsesCounted q.values.written l uses) (sym sents)
          (subst (λ (v : Values). UsesCounted v.written p.slots.sents uses) (sym values) whole.uses_counted);
    }

    pub frozen_whole : p.slots.left ≡ [] → IsWhole q places routes uses
    frozen_whole none = rest_whole (known.frozen_noted p places whole.keys q keys rs sents none)

    pub same_whole : q.slots.left ≡ p.slots.left → IsWhole q places routes uses
    same_whole left = rest_whole (known.same_noted p places whole.keys q keys rs sents left)

  -- ---- a session stands anew, or none

  module _ (state : State) (view : seen p ≡ state) (caps : Option Caps) (slots : Slots)
      (fresh_slots : IsFresh p caps slots) where
    abbrev pub anew : Parts
    anew = restarted p whole.table state view caps slots fresh_slots

    pub restarted_whole : (places_now less : List ℕ)
        → ((place : ℕ) (key : Key) → key_at p.keys place ≡ Some key → chosen_at p.routes place ≡ None
        → has place places_now ≡ true)
        → ((wire : ℕ) → link less wire + sum_by (for_wire wire) p.slots.sents ≡ link uses wire)
        → IsWhole anew places_now routes less
    restarted_whole places_now less lone lost = record {
      table = restarted_kept p whole.table state view caps slots fresh_slots;
      keys = known.lone_noted anew places_now lone;
      routes_counted = whole.routes_counted;
      uses_counted = tally.restarted_counted p.values.written p.slots.sents uses whole.uses_counted slots.sents less
          lost fresh_slots.sent;
    }
