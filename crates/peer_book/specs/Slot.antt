-- What a contract sees of a neighbour slot, and what holds of it whatever was called.
use Rattle.std.specs.Prelude.{◌≡◌, ◌<◌, ◌^◌, ⊤, [], if◌then◌else◌, Option, Some, None, IsSome, is_some}
use Rattle.std.specs.Option.{option_map}
use Rattle.std.specs.List.{AllByRecursion}
use Rattle.route_values.specs.declared.attrs.WireAttrs.{WireAttrs}
use Rattle.route_values.specs.declared.key.Key.{Key}
use Rattle.route_values.specs.declared.settings.Settings.{Settings}
use Rattle.route_values.specs.Caps.{Caps}
use Rattle.route_values.specs.Key.{family_of_key}
use Rattle.route_values.specs.Prefix.{IsPrefix}
use Rattle.route_values.specs.Sent.{sent}
use Rattle.route_values.specs.Settings.{side_of}
use Rattle.update_grammar.specs.Written.{IsCarried}
use Rattle.batch_cutter.specs.Heads.{IsRoute}
use Rattle.adj_rib_out.specs.State.{State, Session, Route, Item, route_at, told_at}
use Rattle.adj_rib_out.specs.Batch.{attrs_said, AreOnce}
use Rattle.peer_history.specs.Steps.{Code}

-- The settings of the neighbour that is in the slot, its table, the capabilities of the session that stands, and the
-- code that ended it.
pub record Slot : Type 0 where
  pub settings : Option Settings
  pub table : State
  pub session : Option Caps
  pub reset : Option Code

-- the capabilities of the live session: it stands, and no code ended it
abbrev pub live_caps : Slot → Option Caps
live_caps slot = if is_some slot.reset then None else slot.session

-- a key, as every prefix and every identifier makes one
pub record IsKey (key : Key) : Type 0 where
  pub prefix : IsPrefix key.prefix.addr key.prefix.len
  pub id : key.id < 2 ^ 32

-- a key with a route that can be announced
pub record IsRoutable (key : Key) (attrs : WireAttrs) : Type 0 where
  pub is_key : IsKey key
  pub route : IsRoute (family_of_key key) attrs

-- what may be said of a key is a route of its family
abbrev pub SaysRoute : Key → Option WireAttrs → Type 0
SaysRoute key None = ⊤
SaysRoute key (Some attrs) = IsRoute (family_of_key key) attrs

-- an item that can be said in a session: the session carries its key
pub record IsSayable (caps : Caps) (item : Item) : Type 0 where
  pub carried : IsCarried caps (family_of_key item.key) item.key
  pub says : SaysRoute item.key (attrs_said item.says)

-- Whatever was called, the routes of a table can be announced and are sent as they are to be, the session carries the
-- keys that it was sent and those that are left, and each key is left once.
pub record IsSound (table : State) : Type 0 where
  pub routes : (key : Key) (route : Route) → route_at table key ≡ Some route → IsRoutable key route.attrs
  pub sent : (key : Key) (route : Route) → route_at table key ≡ Some route
      → route.attrs ≡ sent route.written table.side
  pub told : (session : Session) (key : Key) → table.session ≡ Some session → IsSome (told_at table key)
      → IsCarried session.caps (family_of_key key) key
  pub left : (session : Session) → table.session ≡ Some session → AllByRecursion (IsSayable session.caps) table.left
  pub once : AreOnce table.left

-- nothing was sent, and nothing is left to be sent
pub record IsIdle (table : State) : Type 0 where
  pub told : (key : Key) → told_at table key ≡ None
  pub left : table.left ≡ []

-- Whatever was called, the table has the live session, without one nothing was sent, a slot without a neighbour has no
-- route, and the neighbour's routes are sent as its settings say.
pub record IsKept (slot : Slot) : Type 0 where
  pub session : option_map (λ s. s.caps) slot.table.session ≡ live_caps slot
  pub idle : slot.table.session ≡ None → IsIdle slot.table
  pub side : (own : Settings) → slot.settings ≡ Some own → slot.table.side ≡ side_of own
  pub vacant : slot.settings ≡ None → (key : Key) → route_at slot.table key ≡ None
  pub table : IsSound slot.table
