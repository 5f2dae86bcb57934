-- Routes that are copied from one table to another, in the order of their places.
use Rattle.std.specs.Prelude.{ℕ, ◌≡◌, take, if◌then◌else◌, Option, Some}
use Rattle.std.specs.Option.{option_map, option_and_then}
use Rattle.route_values.specs.declared.key.Key.{Key}
use Rattle.route_values.specs.declared.settings.Side.{Side}
use Rattle.route_values.specs.Addr.{family_of}
use Rattle.route_values.specs.Key.{same_key}
use Rattle.adj_rib_out.specs.State.{State, Route, row_at, route_at}
use Rattle.adj_rib_out.specs.Calls.{KeepsSession, KeepsBatch}
use Rattle.peer_book.specs.Stands.{asked}

-- if a table has a route, then a local address of a side has the family of the one that the table sends by
abbrev pub SendsAlike : State → Side → Type 0
SendsAlike given side =
    (key : Key) (route : Route) → route_at given key ≡ Some route → family_of side.local ≡ family_of given.side.local

-- the route of a key that stands below a place
abbrev pub route_below : State → ℕ → Key → Option Route
route_below table place key = option_and_then (λ row. row.route) (row_at (take place table.rows) key)

-- the key has a route that was asked for as this one was
pub record PutsAsked (key : Key) (route : Route) (old new : State) : Type 0 where
  pub side : new.side ≡ old.side
  pub routes : (k : Key) → option_map asked (route_at new k)
      ≡ (if same_key key k then Some (asked route) else option_map asked (route_at old k))
  pub session : KeepsSession old new
  pub batch : KeepsBatch old new

-- the table has the routes of another that stand below a place
pub record CopiesTo (given old new : State) (place : ℕ) : Type 0 where
  pub side : new.side ≡ old.side
  pub routes : (key : Key) → option_map asked (route_at new key) ≡ option_map asked (route_below given place key)
  pub session : KeepsSession old new
  pub batch : KeepsBatch old new

-- the table has the routes of another
pub record Copies (given old new : State) : Type 0 where
  pub side : new.side ≡ old.side
  pub routes : (key : Key) → option_map asked (route_at new key) ≡ option_map asked (route_at given key)
  pub session : KeepsSession old new
  pub batch : KeepsBatch old new
