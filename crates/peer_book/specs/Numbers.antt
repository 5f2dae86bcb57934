-- Static routes that stand ready in a table, under the numbers of their values.
use Rattle.std.specs.Prelude.{ℕ, ◌≡◌, ◌&&◌, Bool, true, false, not, List, map, Option, Some, None, is_some}
use Rattle.std.specs.Option.{option_map, option_and_then}
use Rattle.std.specs.Map.{lookup}
use Rattle.route_values.specs.declared.key.Key.{Key}
use Rattle.route_values.specs.declared.settings.Settings.{Settings}
use Rattle.route_values.specs.Key.{same_key}
use Rattle.route_values.specs.Settings.{side_of}
use Rattle.config_model.specs.declared.sections.StaticRoute.{StaticRoute}
use Rattle.adj_rib_out.specs.declared.entry.Owner.{Owner}
use Rattle.adj_rib_out.specs.declared.entry.Owner.TheVariants as keeper
use Rattle.adj_rib_out.specs.State.{State, Route, is_ready, value_at, route_of}
use Rattle.peer_history.specs.Steps.{Static}
use Rattle.peer_history.specs.Table.{static_at}
use Rattle.peer_book.specs.Slot.{Slot}
use Rattle.peer_book.specs.Statics.{statics_of, AreRoutes}

-- the number of the value of a key, where the key has one
abbrev pub number_at : List (Key × ℕ) → Key → Option ℕ
number_at numbers key = lookup (same_key key) numbers

-- the keys of static routes
abbrev pub keys_in : List StaticRoute → List Key
keys_in routes = map (λ route. route.key) routes

-- Static routes stand ready: just their keys have numbers, these keys stand ready, and what stands under the number of
-- a key is what its route has.
pub record AreNumbered (table : State) (statics : List Static) (numbers : List (Key × ℕ)) : Type 0 where
  pub all : (key : Key) → is_some (number_at numbers key) ≡ is_some (static_at statics key)
  pub ready : (key : Key) → is_some (number_at numbers key) ≡ true → is_ready table key ≡ true
  pub values : (key : Key) → option_and_then (value_at table) (number_at numbers key)
      ≡ option_map (λ route. route.attrs) (static_at statics key)

-- The neighbour of a slot may stay in it with this section: routes are sent to it as before, and those of the section
-- stand ready, are within the limits, and have next hops of their keys' families.
pub record CanKeep (slot : Slot) (settings : Settings) (statics : List StaticRoute)
    (numbers : List (Key × ℕ)) : Type 0 where
  pub own : Settings
  pub placed : slot.settings ≡ Some own
  pub side : side_of settings ≡ side_of own
  pub numbered : AreNumbered slot.table (statics_of statics) numbers
  pub routes : AreRoutes (side_of settings) statics

-- ---- which routes go, and which come

-- whether the configuration asked for a route
abbrev pub is_static : Owner → Bool
is_static keeper.Static = true
is_static keeper.Helper = false

-- whether a helper asked for what stands at a key
abbrev pub is_helpers : Option Route → Bool
is_helpers None = false
is_helpers (Some route) = not (is_static route.owner)

-- whether a key's route goes where just those with numbers stay of the configuration's
abbrev pub is_gone : List (Key × ℕ) → Key → Option Route → Bool
is_gone numbers key None = false
is_gone numbers key (Some route) = is_static route.owner && not (is_some (number_at numbers key))

-- the static route that stands ready at a key
abbrev pub route_ready : State → List (Key × ℕ) → Key → Option Route
route_ready table numbers key =
    option_map (λ written. route_of table.side written keeper.Static)
    (option_and_then (value_at table) (number_at numbers key))

-- whether a key gets one of these static routes: a helper's stays
abbrev pub is_put : List Static → Key → Option Route → Bool
is_put statics key route = is_some (static_at statics key) && not (is_helpers route)
