-- When a slot stands for a history of steps.
use Rattle.std.specs.Prelude.{ℕ, ◌≡◌, ◌&&◌, Bool, not, List, [], ◌∷◌, filter, Some, is_some}
use Rattle.std.specs.Option.{option_map}
use Rattle.route_values.specs.declared.addr.Family.{Family}
use Rattle.route_values.specs.declared.addr.Family.TheVariants.{Ipv4, Ipv6}
use Rattle.route_values.specs.declared.key.Key.{Key}
use Rattle.route_values.specs.Caps.{Caps}
use Rattle.batch_cutter.specs.Grouped.{MayFollow}
use Rattle.adj_rib_out.specs.declared.entry.Owner.{Owner as Keeper}
use Rattle.adj_rib_out.specs.declared.entry.Owner.TheVariants as keeper
use Rattle.adj_rib_out.specs.State.{State, Session, Item, route_at, told_at}
use Rattle.adj_rib_out.specs.State as table
use Rattle.adj_rib_out.specs.Batch.{attrs_said, item_at, is_left}
use Rattle.adj_rib_out.specs.Calls.{is_open}
use Rattle.adj_rib_out.specs.Told.{items_left}
use Rattle.peer_history.specs.Batches.{opened, batch, has_batch, is_refreshed, is_owed, is_marker_owed}
use Rattle.peer_history.specs.Keys.{is_named}
use Rattle.peer_history.specs.Messages.{said_each, mentions, is_marked}
use Rattle.peer_history.specs.Sessions.{session, reset, live, peer}
use Rattle.peer_history.specs.Steps.{Step}
use Rattle.peer_history.specs.Table.{Owner, Route, want, settings_in, view}
use Rattle.peer_history.specs.Table.Owner.{Configuration, Helper}
use Rattle.peer_book.specs.Slot.{Slot}

-- who asked for a route
abbrev pub owner_of : Keeper → Owner
owner_of keeper.Static = Configuration
owner_of keeper.Helper = Helper

-- a route of the table as it was asked for
abbrev pub asked : table.Route → Route
asked route = record { attrs = route.written; owner = owner_of route.owner }

-- the families that pass a test, IPv4 first
abbrev pub families_where : (Family → Bool) → List Family
families_where test = filter test (Ipv4 ∷ Ipv6 ∷ [])

-- What is left in the table of a batch that began after these steps, when it has had these messages: the owed keys that
-- they don't name, each with its value of the batch's target, and the owed markers that aren't among them. The next
-- message will be packed behind them.
pub record LeavesBatch (caps : Caps) (start : List Step) (messages : List (List ℕ)) (state : State) : Type 0 where
  pub left : (key : Key) → is_left state.left key
      ≡ (is_owed caps start key && not (is_named (mentions caps messages) key))
  pub says : (key : Key) (item : Item) → item_at state.left key ≡ Some item
      → attrs_said item.says ≡ view caps start key
  pub markers : state.markers
      ≡ families_where (λ family. is_marker_owed caps start family && not (is_marked family messages))
  pub follow : MayFollow caps (said_each caps messages) (items_left state)

-- the session that a live session is in the table
abbrev pub session_kept : Caps → List Step → Session
session_kept caps steps = record {
  caps = caps;
  begun = has_batch steps;
  ipv4_again = is_refreshed steps Ipv4;
  ipv6_again = is_refreshed steps Ipv6;
}

-- the table stands for what the live session was sent, and for what is left of its open batch
pub record StandsLive (caps : Caps) (steps : List Step) (state : State) : Type 0 where
  pub session : state.session ≡ Some (session_kept caps steps)
  pub told : (key : Key) → told_at state key ≡ peer caps steps key
  pub open_so : is_open state ≡ is_some (opened steps)
  pub batch : (start : List Step) → opened steps ≡ Some start → LeavesBatch caps start (batch steps) state

-- the slot stands for its neighbour, the table that is wanted, the session, its end, and its batches
pub record Stands (steps : List Step) (slot : Slot) : Type 0 where
  pub settings : slot.settings ≡ settings_in steps
  pub routes : (key : Key) → option_map asked (route_at slot.table key) ≡ want steps key
  pub session : slot.session ≡ session steps
  pub reset : slot.reset ≡ reset steps
  pub live : (caps : Caps) → live steps ≡ Some caps → StandsLive caps steps slot.table
