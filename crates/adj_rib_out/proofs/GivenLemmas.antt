-- A key is given a route, or loses it: what the table is then, with its notes and counts.
use Rattle.std.proofs.Common.{◌≡◌, ℕ, ◌+◌, ◌<◌, Bool, true, false, List, cond, Option, Some, length}
use Rattle.std.proofs.Common.{None, refl, sym, ap, subst, ◌∙◌}
use Rattle.std.specs.Prelude.{is_some, IsSome, IfSome, nat_lt, not, slice_set, ◌||◌, ◌&&◌}
use Rattle.std.proofs.lemmas.List.{length-set}
use Rattle.linked_pending.specs.Links.{link}
use Rattle.linked_pending.specs.Listing.{without}
use Rattle.value_pool.specs.Pool.{noted}
use Rattle.route_values.specs.declared.key.Key.{Key}
use Rattle.slot_batches.specs.Left.{value_left}
use Rattle.slot_batches.specs.Slots.{Slots}
use Rattle.adj_rib_out.specs.declared.chosen.Chosen.{Chosen}
use Rattle.adj_rib_out.specs.State.{State, Route}
use Rattle.adj_rib_out.specs.Calls.{Sets}
use Rattle.adj_rib_out.specs.Counts.{IsWhole, KeysNoted, RoutesCounted}
use Rattle.adj_rib_out.specs.Kept.{Parts, Values, IsTable, seen, chosen_at, route_in, shown_number, written_under}
use Rattle.adj_rib_out.specs.Nodes.{is_kept, is_node, nodes}
use Rattle.adj_rib_out.specs.Places.{key_at, place_of}
use Rattle.adj_rib_out.proofs.NotedLemmas as known
use Rattle.adj_rib_out.proofs.NumberLemmas.{some_is_some}
use Rattle.adj_rib_out.proofs.RowLemmas.{found}
use Rattle.adj_rib_out.proofs.SetLemmas as set
use Rattle.adj_rib_out.proofs.WholeLemmas as whole_of

pub key_stands : (p : Parts) (key : Key) (place : ℕ) → place_of p.keys key ≡ Some place
    → (keys : List (Option Key)) → keys ≡ p.keys → IsSome (key_at keys place)
key_stands p key place here keys same = some_is_some (key_at keys place) key
    (ap (λ (ks : List (Option Key)). key_at ks place) same ∙ found p.keys key place here)

-- the value that a place was given stands
pub was_value : (p : Parts) → IsTable p → (place : ℕ)
    → IfSome (chosen_at p.routes place) (λ chosen. IsSome (written_under p.values chosen.value))
was_value p table place = at (chosen_at p.routes place) refl
  where
    at : (o : Option Chosen) → chosen_at p.routes place ≡ o
        → IfSome o (λ chosen. IsSome (written_under p.values chosen.value))
    at None none = tt
    at (Some chosen) is = table.chosen place chosen is

pub within_after : (p : Parts) (table : IsTable p) (key : Key) (place : ℕ) (here : place_of p.keys key ≡ Some place)
    (r : Option Chosen) (valid : (c : Chosen) → r ≡ Some c → IsSome (written_under p.values c.value)) (slots : Slots)
    → (number : ℕ) → slots ≡ record p.slots { nows = slice_set p.slots.nows place number } → place < length slots.nows
within_after p table key place here r valid slots number show = subst (λ n. place < n)
    (sym (ap (λ (s : Slots). length s.nows) show ∙ length-set p.slots.nows place number))
    (set.within_nows p table key place here r valid)

module _ (p : Parts) (places routes uses : List ℕ) (whole : IsWhole p places routes uses) (key : Key) (state : State)
    (view : seen p ≡ state) (place : ℕ) (here : place_of p.keys key ≡ Some place) (r : Option Chosen)
    (valid : (c : Chosen) → r ≡ Some c → IsSome (written_under p.values c.value)) (number : ℕ)
    (shown : number ≡ shown_number p.caps p.values key r) (rs : List (Option Chosen))
    (chose : rs ≡ slice_set p.routes place r) (slots : Slots)
    (show : slots ≡ record p.slots { nows = slice_set p.slots.nows place number })
    (keys : List (Option Key)) (values : Values) (same_keys : keys ≡ p.keys) (same_values : values ≡ p.values) where
  abbrev made : Parts
  made = set.made p whole.table key state view place here r valid number shown rs chose slots show

  abbrev pub after : Parts
  after = record p { keys = keys; routes = rs; values = values; slots = slots }

  within : place < length p.routes
  within = set.within_routes p whole.table key place here r valid

  after_whole : (places_now noted_now counts uses_now : List ℕ) → places_now ≡ noted_now → uses_now ≡ uses
      → KeysNoted (record p {
        routes = slice_set p.routes place r;
        slots = record p.slots { nows = slice_set p.slots.nows place number };
      }) noted_now
      → RoutesCounted rs counts → IsWhole after places_now counts uses_now
  after_whole places_now noted_now counts uses_now places_are uses_are keys_noted counted =
      whole_of.whole_moved made keys values same_keys same_values noted_now counts uses places_now counts uses_now
      places_are refl uses_are (whole_of.given_whole p places routes uses whole place r
      (slice_set p.slots.nows place number) rs chose
      slots show (set.made_kept p whole.table key state view place here r valid number shown rs chose slots show)
      noted_now counts keys_noted counted)

  pub set_whole : is_some r ≡ true → (places_now counts uses_now : List ℕ) → places_now ≡ without place places
      → uses_now ≡ uses → RoutesCounted rs counts → IsWhole after places_now counts uses_now
  set_whole some places_now counts uses_now places_are uses_are counted = after_whole places_now (without place places)
      counts uses_now places_are uses_are (known.set_noted p places whole.keys place within r
      (slice_set p.slots.nows place number) some) counted

  pub unset_whole : (busy : Bool)
      → busy ≡ (nat_lt 1 (link slots.sents place) || is_some (value_left slots.left place))
      → (places_now counts uses_now : List ℕ) → places_now ≡ cond busy places (noted place places)
      → uses_now ≡ uses → RoutesCounted rs counts → IsWhole after places_now counts uses_now
  unset_whole busy is places_now counts uses_now places_are uses_are counted =
      after_whole places_now (cond busy places (noted place places)) counts uses_now places_are uses_are
      (known.unset_noted p places whole.keys place within r (slice_set p.slots.nows place number) busy
      (is ∙ ap (λ (s : Slots). nat_lt 1 (link s.sents place) || is_some (value_left s.left place)) show)) counted

  pub after_sets : (route : Option Route) → route_in p.values r ≡ route → Sets state (seen after) key route
  after_sets route is = whole_of.move made keys values same_keys same_values
      (λ (q : Parts). Sets state (seen q) key route)
      (set.made_route p whole.table key state view place here r valid number shown rs chose slots show route is)

  pub after_added : is_some (route_in p.values r) ≡ true
      → nodes (seen after) ≡ nodes state + cond (is_node state key) 0 1
  after_added some = whole_of.move made keys values same_keys same_values
      (λ (q : Parts). nodes (seen q) ≡ nodes state + cond (is_node state key) 0 1)
      (set.made_added p whole.table key state view place here r valid number shown rs chose slots show some)

  pub after_removed : is_some (route_in p.values r) ≡ false
      → nodes (seen after) + cond (is_node state key && not (is_kept state key)) 1 0 ≡ nodes state
  after_removed none = whole_of.move made keys values same_keys same_values
      (λ (q : Parts). nodes (seen q) + cond (is_node state key && not (is_kept state key)) 1 0 ≡ nodes state)
      (set.made_removed p whole.table key state view place here r valid number shown rs chose slots show none)
