-- Static routes in a table.
use Rattle.std.specs.Prelude.{◌≡◌, ⊤, List, map}
use Rattle.std.specs.Option.{option_map, option_or}
use Rattle.std.specs.List.{AllByRecursion}
use Rattle.route_values.specs.declared.key.Key.{Key}
use Rattle.route_values.specs.declared.settings.Side.{Side}
use Rattle.route_values.specs.Key.{family_of_key}
use Rattle.route_values.specs.Sent.{sent}
use Rattle.batch_cutter.specs.Heads.{IsRoute}
use Rattle.config_model.specs.declared.sections.StaticRoute.{StaticRoute}
use Rattle.adj_rib_out.specs.State.{State, route_at}
use Rattle.adj_rib_out.specs.Calls.{KeepsSession, KeepsBatch}
use Rattle.peer_history.specs.Steps.{Step, Static}
use Rattle.peer_history.specs.Steps.Step.{Placed, Kept, Vacated}
use Rattle.peer_history.specs.Table.{want, settings_in, static_at}
use Rattle.peer_book.specs.Slot.{Slot}
use Rattle.peer_book.specs.Stands.{asked}

-- a static route of a section
abbrev pub static_of : StaticRoute → Static
static_of route = record { key = route.key; attrs = route.attrs }

abbrev pub statics_of : List StaticRoute → List Static
statics_of routes = map static_of routes

-- what is sent of each is within the limits, with a next hop of its key's family
abbrev pub AreRoutes : Side → List StaticRoute → Type 0
AreRoutes side routes = AllByRecursion (λ route. IsRoute (family_of_key route.key) (sent route.attrs side)) routes

-- the table has the static routes besides, of each key that it had none of
pub record PutsStatics (old new : State) (statics : List Static) : Type 0 where
  pub side : new.side ≡ old.side
  pub routes : (key : Key) → option_map asked (route_at new key)
      ≡ option_or (option_map asked (route_at old key)) (static_at statics key)
  pub session : KeepsSession old new
  pub batch : KeepsBatch old new

-- a slot stands for the neighbour and the table that a history ends with, whatever its session
pub record StandsWithout (steps : List Step) (slot : Slot) : Type 0 where
  pub settings : slot.settings ≡ settings_in steps
  pub routes : (key : Key) → option_map asked (route_at slot.table key) ≡ want steps key

-- the step exchanges what a slot has
abbrev pub IsExchange : Step → Type 0
IsExchange (Placed settings statics) = ⊤
IsExchange (Kept settings statics) = ⊤
IsExchange Vacated = ⊤
IsExchange _ = ⊥
