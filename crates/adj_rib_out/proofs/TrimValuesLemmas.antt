-- A table whose written values and wire attributes are trimmed: just the values go that no route has.
use Rattle.std.proofs.Common.{◌≡◌, ◌==◌, ℕ, ◌+◌, ◌*◌, ◌<◌, ◌≤◌, Bool, true, false, List, [], ◌∷◌, cond}
use Rattle.std.proofs.Common.{suc, Option, Some, None, length, refl, sym, ap, subst, ◌∙◌, inl, inr, arith}
use Rattle.std.specs.Prelude.{IsSome, is_some}
use Rattle.std.specs.Option.{option_map, option_and_then}
use Rattle.std.specs.List.{sum_by}
use Rattle.std.proofs.lemmas.Bool.{eqb-true}
use Rattle.std.proofs.lemmas.List.Sums.{sum_by-cons}
use Rattle.linked_pending.specs.Links.{link}
use Rattle.route_values.specs.declared.attrs.Attrs.{Attrs}
use Rattle.route_values.specs.declared.key.Key.{Key}
use Rattle.adj_rib_out.specs.declared.chosen.Chosen.{Chosen}
use Rattle.adj_rib_out.specs.State.{State, Route, is_ready, route_at, value_at, route_of}
use Rattle.adj_rib_out.specs.Calls.{HasRoute}
use Rattle.adj_rib_out.specs.Counts.{of_value, with_wire, for_wire, RoutesCounted, UsesCounted, IsWhole}
use Rattle.adj_rib_out.specs.Nodes.{nodes}
use Rattle.adj_rib_out.specs.Places.{key_at, place_of}
use Rattle.adj_rib_out.specs.Kept.{Parts, IsTable, chosen_at, route_by, route_in, seen, written_under}
use Rattle.adj_rib_out.specs.Stock.{Stock}
use Rattle.adj_rib_out.specs.Trimmed.{LosesValues, LosesWires, TrimsValues}
use Rattle.adj_rib_out.proofs.PartLemmas.{route_seen, value_seen}
use Rattle.adj_rib_out.proofs.ReadyValueLemmas.{stocked}
use Rattle.adj_rib_out.proofs.RevaluedLemmas.{StaysUsed, seen_stays, routes_stay, session_stays, batch_stays}
use Rattle.adj_rib_out.proofs.RevaluedLemmas.{nodes_stay, table_stays, texts_of}
use Rattle.adj_rib_out.proofs.RowLemmas.{stands, none_some, some_is}
use Rattle.adj_rib_out.proofs.StayLemmas.{fewer_stays, fewer_wires_stay, given_counts}

-- ---- a value that is counted was given to a place

record IsGiven (routes : List (Option Chosen)) (value : ℕ) : Type 0 where
  pub place : ℕ
  pub chosen : Chosen
  pub stands : chosen_at routes place ≡ Some chosen
  pub is : chosen.value ≡ value

behind : (first : Option Chosen) (routes : List (Option Chosen)) (value : ℕ) → IsGiven routes value
    → IsGiven (first ∷ routes) value
behind first routes value given = record {
  place = suc given.place;
  chosen = given.chosen;
  stands = given.stands;
  is = given.is;
}

given_by : (routes : List (Option Chosen)) (value : ℕ) → 0 < sum_by (of_value value) routes → IsGiven routes value
given_by [] value some = absurd (omega arith)
given_by (None ∷ routes) value some =
    let whole = sum_by-cons (of_value value) None routes in
    behind None routes value (given_by routes value (omega arith))
given_by (Some chosen ∷ routes) value some = elim (chosen.value == value) as (λ (t : Bool). (chosen.value == value) ≡ t
    → IsGiven (Some chosen ∷ routes) value) [
      | true ↦ λ same. record { place = 0; chosen = chosen; stands = refl; is = eqb-true chosen.value value same }
      | false ↦ λ differs.
          let whole = sum_by-cons (of_value value) (Some chosen) routes in
          let none : of_value value (Some chosen) ≡ 0 = ap (λ (t : Bool). cond t 1 0) differs in
          behind (Some chosen) routes value (given_by routes value (omega arith))
    ] refl

-- ---- which values have a route

module _ (p : Parts) (table : IsTable p) where
  route_here : (place : ℕ) (key : Key) → key_at p.keys place ≡ Some key → route_at (seen p) key ≡ route_by p place
  route_here place key here = route_seen p key ∙ ap (option_and_then (route_by p))
      (stands p.keys key place table.once here)

  -- a value that is counted has a route
  pub has_route : (value : ℕ) (written : Attrs) (w : ℕ) → 0 < sum_by (of_value value) p.routes
      → written_under p.values value ≡ Some (written, w) → HasRoute (seen p) written
  has_route value written w some is =
      let given = given_by p.routes value some in
      elim (key_at p.keys given.place) as (λ (o : Option Key). key_at p.keys given.place ≡ o
      → HasRoute (seen p) written) [
        | None ↦ λ free. absurd (none_some (sym (table.vacant given.place free).chosen ∙ given.stands))
        | Some key ↦ λ here. record {
          key = key;
          route = route_of p.values.side written given.chosen.owner;
          stands = route_here given.place key here ∙ ap (route_in p.values) given.stands
              ∙ ap (λ (value : Option (Attrs × ℕ)). option_map (λ (v : Attrs × ℕ).
              route_of p.values.side v.0 given.chosen.owner) value)
              (ap (written_under p.values) given.is ∙ is);
          is = refl;
        }
      ] refl

  -- the route of a place tells its value
  route_tells : (place : ℕ) (chosen : Option Chosen) (route : Route) → chosen_at p.routes place ≡ chosen
      → route_in p.values chosen ≡ Some route → (value w : ℕ)
      → written_under p.values value ≡ Some (route.written, w) → 1 ≤ sum_by (of_value value) p.routes
  route_tells place None route at is value w stands_value = absurd (none_some is)
  route_tells place (Some chosen) route at is value w stands_value =
      elim (written_under p.values chosen.value) as (λ (o : Option (Attrs × ℕ)). written_under p.values chosen.value ≡ o
      → option_map (λ (v : Attrs × ℕ). route_of p.values.side v.0 chosen.owner) o ≡ Some route
      → 1 ≤ sum_by (of_value value) p.routes) [
        | None ↦ λ none shows. absurd (none_some shows)
        | Some v ↦ λ under shows. given_counts p table value place chosen at
            (table.kept.written_once chosen.value value v.1 w route.written
            (under ∙ ap (λ (a : Attrs). Some (a, v.1)) (ap (λ (r : Route). r.written) (some_is shows))) stands_value)
      ] refl is

  -- a value with a route is counted
  pub route_counts : (written : Attrs) → HasRoute (seen p) written → (value w : ℕ)
      → written_under p.values value ≡ Some (written, w) → 1 ≤ sum_by (of_value value) p.routes
  route_counts written route value w is =
      elim (place_of p.keys route.key) as (λ (o : Option ℕ). place_of p.keys route.key ≡ o
      → 1 ≤ sum_by (of_value value) p.routes) [
        | None ↦ λ none. absurd (none_some (sym (route_seen p route.key ∙ ap (option_and_then (route_by p)) none)
            ∙ route.stands))
        | Some place ↦ λ here. route_tells place (chosen_at p.routes place) route.route refl
            (sym (route_seen p route.key ∙ ap (option_and_then (route_by p)) here) ∙ route.stands) value w
            (is ∙ ap (λ (a : Attrs). Some (a, w)) (sym route.is))
      ] refl

-- ---- values go

abbrev text : Option (Attrs × ℕ) → Option Attrs
text value = option_map (λ (v : Attrs × ℕ). v.0) value

with_number : (value : Option (Attrs × ℕ)) (written : Attrs) → text value ≡ Some written
    → (w : ℕ) × (value ≡ Some (written, w))
with_number None written shows = absurd (none_some shows)
with_number (Some value) written shows = (value.1, ap (λ (a : Attrs). Some (a, value.1)) (some_is shows))

module _ (p : Parts) (old new : Stock) (table : IsTable (stocked p old)) (counted : RoutesCounted p.routes old.routes)
    (loses : LosesValues old new) where
  same_seen : new.seen ≡ record old.seen { written = new.seen.written }
  same_seen = ap (λ (s : Stock). s.seen) loses.rest

  pub values_stay : StaysUsed (stocked p old) new.seen
  values_stay = subst (StaysUsed (stocked p old)) (sym same_seen)
      (fewer_stays (stocked p old) table old.routes new.seen.written counted loses.values)

  seen_trimmed : seen (stocked p new) ≡ record (seen (stocked p old)) { values = texts_of new.seen }
  seen_trimmed = seen_stays (stocked p old) new.seen p.slots.room values_stay

  value_left : (n : ℕ) (written : Attrs) → value_at (seen (stocked p old)) n ≡ Some written
      → (w : ℕ) × (written_under old.seen n ≡ Some (written, w))
  value_left n written is = with_number (written_under old.seen n) written
      (sym (value_seen (stocked p old) n) ∙ is)

  pub trims : ((value : ℕ) → IsSome (written_under new.seen value) → 0 < link new.routes value)
      → TrimsValues (seen (stocked p old)) (seen (stocked p new))
  trims given = record {
    keys = λ key. ap (λ (s : State). is_ready s key) seen_trimmed;
    values = λ n. elim (loses.values n) [
      | inl same ↦ inr (value_seen (stocked p new) n ∙ ap text same ∙ sym (value_seen (stocked p old) n))
      | inr gone ↦ inl (value_seen (stocked p new) n ∙ ap text gone.0)
    ];
    stays = λ n written is route. elim (loses.values n) [
      | inl same ↦ value_seen (stocked p new) n ∙ ap text same ∙ sym (value_seen (stocked p old) n) ∙ is
      | inr gone ↦
          let stood = value_left n written is in
          let some = route_counts (stocked p old) table written route n stood.0 stood.1 in
          let whole = counted n in
          let none = gone.1 in
          absurd (omega arith)
    ];
    goes = λ n written is lone. elim (loses.values n) [
      | inl same ↦
          let stood = value_left n written is in
          let some = given n (ap is_some (same ∙ stood.1)) in
          let counts = ap (λ (s : Stock). link s.routes n) loses.rest in
          let whole = counted n in
          absurd (lone (has_route (stocked p old) table n written stood.0 (omega arith) stood.1))
      | inr gone ↦ value_seen (stocked p new) n ∙ ap text gone.0
    ];
    routes = routes_stay (stocked p old) new.seen p.slots.room values_stay;
    session = session_stays (stocked p old) new.seen p.slots.room values_stay;
    batch = batch_stays (stocked p old) new.seen p.slots.room values_stay;
  }

  pub nodes_trimmed : nodes (seen (stocked p new)) ≡ nodes (seen (stocked p old))
  nodes_trimmed = nodes_stay (stocked p old) new.seen p.slots.room values_stay

  pub whole_trimmed : (noted : List ℕ) → IsWhole (stocked p old) noted old.routes old.uses
      → IsWhole (stocked p new) noted new.routes new.uses
  whole_trimmed noted whole = record {
    table = table_stays (stocked p old) new.seen p.slots.room values_stay table (λ place key here.
        subst (λ (n : ℕ). 2 * n + 1 < p.slots.room) (sym (ap (λ (s : Stock). length s.seen.wires) loses.rest))
        (table.room place key here));
    keys = whole.keys;
    routes_counted = λ v. ap (λ (s : Stock). link s.routes v) loses.rest ∙ whole.routes_counted v;
    uses_counted = λ w. let was = whole.uses_counted w in let change = loses.uses w in omega arith;
  }

-- ---- wire attributes go, where nothing is left of a batch

module _ (p : Parts) (old new : Stock) (table : IsTable (stocked p old))
    (counted : UsesCounted old.seen.written p.slots.sents old.uses) (closed : p.slots.left ≡ [])
    (loses : LosesWires old new) where
  same_but_wires : new.seen ≡ record old.seen { wires = new.seen.wires }
  same_but_wires = ap (λ (s : Stock). s.seen) loses.rest

  pub wires_stay : StaysUsed (stocked p old) new.seen
  wires_stay = subst (StaysUsed (stocked p old)) (sym same_but_wires)
      (fewer_wires_stay (stocked p old) table old.uses new.seen.wires counted closed loses.wires)

  -- nothing of it is seen
  pub seen_same : seen (stocked p new) ≡ seen (stocked p old)
  seen_same = seen_stays (stocked p old) new.seen p.slots.room wires_stay
      ∙ ap (λ (s : Stock). record (seen (stocked p old)) { values = texts_of s.seen }) loses.rest

  pub whole_without_wires : (noted : List ℕ) → IsWhole (stocked p old) noted old.routes old.uses
      → IsWhole (stocked p new) noted new.routes new.uses
  whole_without_wires noted whole = record {
    table = table_stays (stocked p old) new.seen p.slots.room wires_stay table (λ place key here.
        subst (λ (n : ℕ). 2 * n + 1 < p.slots.room) (sym loses.same_length) (table.room place key here));
    keys = whole.keys;
    routes_counted = λ v. ap (λ (s : Stock). link s.routes v) loses.rest ∙ whole.routes_counted v;
    uses_counted = λ w. ap (λ (s : Stock). link s.uses w) loses.rest ∙ whole.uses_counted w
        ∙ ap (λ (s : Stock). sum_by (with_wire w) s.seen.written + sum_by (for_wire w) p.slots.sents)
        (sym loses.rest);
  }
