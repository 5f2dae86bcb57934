-- Changes of a table whose neighbour stays while its static routes change.
use Rattle.std.specs.Prelude.{ℕ, ◌≡◌, ◌<◌, ◌⊎◌, true, false, List, if◌then◌else◌, Option, Some, None, IsSome, slice_get}
use Rattle.std.specs.Option.{option_map, option_and_then}
use Rattle.route_values.specs.declared.attrs.Attrs.{Attrs}
use Rattle.route_values.specs.declared.key.Key.{Key}
use Rattle.route_values.specs.Key.{family_of_key}
use Rattle.route_values.specs.Sent.{sent}
use Rattle.batch_cutter.specs.Heads.{IsRoute}
use Rattle.adj_rib_out.specs.State.{State, Row, Route, is_ready, route_at, value_at}
use Rattle.adj_rib_out.specs.Calls.{KeepsReady, KeepsSession, KeepsBatch}
use Rattle.peer_history.specs.Steps.{Static}
use Rattle.peer_history.specs.Table.{is_of_helper, static_at}
use Rattle.peer_history.specs.Table as history
use Rattle.peer_book.specs.Numbers.{number_at, is_gone, is_put, route_ready}
use Rattle.peer_book.specs.Stands.{asked}

-- the key of a pair whose route goes
abbrev pub gone_key : List (Key × ℕ) → Option (Key × Route) → Option Key
gone_key numbers None = None
gone_key numbers (Some pair) = if is_gone numbers pair.0 (Some pair.1) then Some pair.0 else None

-- no row below a place has a route any longer that goes, and each other route stands
pub record DropsTo (numbers : List (Key × ℕ)) (old new : State) (place : ℕ) : Type 0 where
  pub side : new.side ≡ old.side
  pub routes : (key : Key) → (route_at new key ≡ route_at old key)
      ⊎ ((route_at new key ≡ None) × (is_gone numbers key (route_at old key) ≡ true))
  pub gone : (p : ℕ) (row : Row) → p < place → slice_get new.rows p ≡ Some (Some row)
      → is_gone numbers row.key row.route ≡ false
  pub ready : KeepsReady old new
  pub session : KeepsSession old new
  pub batch : KeepsBatch old new

-- the routes that go are gone, and each other stands
pub record Drops (numbers : List (Key × ℕ)) (old new : State) : Type 0 where
  pub side : new.side ≡ old.side
  pub routes : (key : Key) → route_at new key
      ≡ (if is_gone numbers key (route_at old key) then None else route_at old key)
  pub ready : KeepsReady old new
  pub session : KeepsSession old new
  pub batch : KeepsBatch old new

-- these static routes stand, as they stood ready, but where a helper's do
pub record PutsOver (statics : List Static) (numbers : List (Key × ℕ)) (old new : State) : Type 0 where
  pub side : new.side ≡ old.side
  pub routes : (key : Key) → route_at new key
      ≡ (if is_put statics key (route_at old key) then route_ready old numbers key else route_at old key)
  pub ready : KeepsReady old new
  pub session : KeepsSession old new
  pub batch : KeepsBatch old new

-- the static route of a key may be put into the table
pub record CanPut (table : State) (numbers : List (Key × ℕ)) (key : Key) : Type 0 where
  pub ready : is_ready table key ≡ true
  pub value : IsSome (option_and_then (value_at table) (number_at numbers key))
  pub route : (written : Attrs) → option_and_then (value_at table) (number_at numbers key) ≡ Some written
      → IsRoute (family_of_key key) (sent written table.side)

-- what stands at a key behind a section that is read anew, by what stood there: a helper's route, or the static one
abbrev pub kept_by : List Static → Key → Option history.Route → Option history.Route
kept_by statics key was = if is_of_helper was then was else static_at statics key

-- the table has helpers' routes as before, and at all other keys just these static routes
pub record KeepsStatics (old new : State) (statics : List Static) : Type 0 where
  pub side : new.side ≡ old.side
  pub routes : (key : Key) → option_map asked (route_at new key)
      ≡ kept_by statics key (option_map asked (route_at old key))
  pub session : KeepsSession old new
  pub batch : KeepsBatch old new
