-- All routes are taken out of a table.
use Rattle.std.specs.Prelude.{ℕ, ◌≡◌, ◌<◌, Some, None, slice_get}
use Rattle.route_values.specs.declared.key.Key.{Key}
use Rattle.adj_rib_out.specs.State.{State, Row, route_at}
use Rattle.adj_rib_out.specs.Calls.{KeepsReady, KeepsSession, KeepsBatch}

-- no row below a place has a route any longer
pub record UnsetsTo (old new : State) (place : ℕ) : Type 0 where
  pub side : new.side ≡ old.side
  pub ready : KeepsReady old new
  pub session : KeepsSession old new
  pub batch : KeepsBatch old new
  pub gone : (p : ℕ) (row : Row) → p < place → slice_get new.rows p ≡ Some (Some row) → row.route ≡ None

-- no key has a route any longer
pub record UnsetsAll (old new : State) : Type 0 where
  pub side : new.side ≡ old.side
  pub routes : (key : Key) → route_at new key ≡ None
  pub ready : KeepsReady old new
  pub session : KeepsSession old new
  pub batch : KeepsBatch old new
