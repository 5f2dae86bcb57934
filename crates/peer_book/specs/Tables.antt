-- Changes of several keys of a table at once, and when they may be made.
use Rattle.std.specs.Prelude.{ℕ, ◌≡◌, true, List, if◌then◌else◌, Option, Some}
use Rattle.route_values.specs.declared.attrs.Attrs.{Attrs}
use Rattle.route_values.specs.declared.key.Key.{Key}
use Rattle.route_values.specs.declared.settings.Settings.{Settings}
use Rattle.route_values.specs.Key.{family_of_key}
use Rattle.route_values.specs.Sent.{sent}
use Rattle.route_values.specs.Settings.{side_of}
use Rattle.batch_cutter.specs.Heads.{IsRoute}
use Rattle.adj_rib_out.specs.State.{State, Route, is_ready, route_at, value_at}
use Rattle.adj_rib_out.specs.Calls.{KeepsReady, KeepsSession, KeepsBatch}
use Rattle.peer_history.specs.Keys.{is_named}
use Rattle.peer_book.specs.Slot.{Slot, IsKey}

-- each of these keys has this route, or none
pub record SetsEach (old new : State) (keys : List Key) (route : Option Route) : Type 0 where
  pub side : new.side ≡ old.side
  pub routes : (key : Key) → route_at new key ≡ (if is_named keys key then route else route_at old key)
  pub ready : KeepsReady old new
  pub session : KeepsSession old new
  pub batch : KeepsBatch old new

-- the keys stand ready
abbrev pub AreReady : State → List Key → Type 0
AreReady table keys = (key : Key) → is_named keys key ≡ true → is_ready table key ≡ true

-- each is a key as every prefix and identifier makes one
abbrev pub AreKeys : List Key → Type 0
AreKeys keys = (key : Key) → is_named keys key ≡ true → IsKey key

-- Routes of these keys with the value of this number may be put into the slot's table: it has a neighbour, keys and
-- value stand ready, and what is sent of the value is within the limits, with a next hop of each key's family.
pub record CanAnnounce (slot : Slot) (keys : List Key) (number : ℕ) : Type 0 where
  pub own : Settings
  pub written : Attrs
  pub placed : slot.settings ≡ Some own
  pub value : value_at slot.table number ≡ Some written
  pub ready : AreReady slot.table keys
  pub routes : (key : Key) → is_named keys key ≡ true → IsRoute (family_of_key key) (sent written (side_of own))
