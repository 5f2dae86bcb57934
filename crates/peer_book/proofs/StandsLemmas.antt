-- A slot that stands for a history stands for it with one more step.
use Rattle.std.proofs.Common.{◌≡◌, ℕ, Bool, true, false, List, [], ◌∷◌, ◌++◌, Some, None, refl, sym, ap, ◌∙◌, subst}
use Rattle.std.specs.Prelude.{map, Option, is_some, if◌then◌else◌}
use Rattle.std.specs.Option.{option_map, option_or}
use Rattle.std.proofs.lemmas.Option.{same_Some}
use Rattle.route_values.specs.declared.addr.Family.{Family}
use Rattle.route_values.specs.declared.addr.Family.TheVariants.{Ipv4, Ipv6}
use Rattle.route_values.specs.declared.attrs.Attrs.{Attrs}
use Rattle.route_values.specs.declared.key.Key.{Key}
use Rattle.route_values.specs.Caps.{Caps}
use Rattle.batch_cutter.specs.Grouped.{MayFollow}
use Rattle.batch_cutter.specs.Items as batch
use Rattle.adj_rib_out.specs.declared.entry.Owner.TheVariants as keeper
use Rattle.adj_rib_out.specs.State.{State, Session, Item, route_at, told_at, value_at, route_of}
use Rattle.adj_rib_out.specs.State as table
use Rattle.adj_rib_out.specs.Batch.{item_at, is_left}
use Rattle.adj_rib_out.specs.Calls.{again, is_open, KeepsSession, KeepsBatch, Restarts, Refreshes}
use Rattle.adj_rib_out.specs.Told.{items_left, batch_item}
use Rattle.peer_history.specs.Batches.{opened, has_batch, is_refreshed}
use Rattle.peer_history.specs.Batches as history
use Rattle.peer_history.specs.Messages.{said_each}
use Rattle.peer_history.specs.Sessions.{session, reset, live, peer}
use Rattle.peer_history.specs.Steps.{Step, Code}
use Rattle.peer_history.specs.Steps.Step.{Announced, Withdrawn, Cleared, Up, Down, Ended, Refreshed}
use Rattle.peer_history.specs.Keys.{is_named}
use Rattle.peer_history.specs.Table.{Route, want}
use Rattle.peer_history.specs.Table.Owner.{Helper}
use Rattle.peer_book.specs.Slot.{Slot}
use Rattle.peer_book.specs.Stands.{asked, LeavesBatch, session_kept, StandsLive, Stands}
use Rattle.peer_book.specs.Clearing.{UnsetsAll}
use Rattle.peer_book.specs.Tables.{SetsEach}
use Rattle.peer_book.proofs.KeptLemmas.{slot_with, IsCalm}

-- nothing is left of a batch
shut : (state : State) → state.left ≡ [] → state.markers ≡ [] → is_open state ≡ false
shut state left markers = rw (left, markers) refl

-- a session that has had nothing
pub live_up : (caps : Caps) (steps : List Step) (old new : State) → Restarts old new (Some caps)
    → StandsLive caps (Up caps ∷ steps) new
live_up caps steps old new restarts = record {
  session = restarts.session;
  told = restarts.told;
  open_so = shut new restarts.left restarts.markers;
  batch = λ start is. absurd cc;
}

pub stands_up : (steps : List Step) (slot : Slot) (new : State) (caps : Caps) → Stands steps slot
    → Restarts slot.table new (Some caps) → Stands (Up caps ∷ steps) (slot_with slot new (Some caps) None)
stands_up steps slot new caps stands restarts = record {
  settings = stands.settings;
  routes = λ key. ap (option_map asked) (restarts.routes.routes key) ∙ stands.routes key;
  session = refl;
  reset = refl;
  live = λ other is. subst (λ c. StandsLive c (Up caps ∷ steps) new) (same_Some _ _ is)
      (live_up caps steps slot.table new restarts);
}

pub stands_down : (steps : List Step) (slot : Slot) (new : State) → Stands steps slot
    → Restarts slot.table new None → Stands (Down ∷ steps) (slot_with slot new None None)
stands_down steps slot new stands restarts = record {
  settings = stands.settings;
  routes = λ key. ap (option_map asked) (restarts.routes.routes key) ∙ stands.routes key;
  session = refl;
  reset = refl;
  live = λ caps is. absurd cc;
}

-- a session that a code ended is not live
ended_live : (was : Option Code) (code : Code) (session : Option Caps) (caps : Caps)
    → (if is_some (option_or was (Some code)) then None else session) ≡ Some caps → ⊥
ended_live None code session caps is = cc
ended_live (Some first) code session caps is = cc

pub stands_end : (steps : List Step) (slot : Slot) (new : State) (code : Code) → Stands steps slot
    → Restarts slot.table new None
    → Stands (Ended code ∷ steps) (slot_with slot new slot.session (option_or slot.reset (Some code)))
stands_end steps slot new code stands restarts = record {
  settings = stands.settings;
  routes = λ key. ap (option_map asked) (restarts.routes.routes key) ∙ stands.routes key;
  session = stands.session;
  reset = ap (λ was. option_or was (Some code)) stands.reset;
  live = λ caps is. absurd (ended_live (reset steps) code (session steps) caps is);
}

-- the items of a table that has the same left
pub items_same : (old new : State) → KeepsBatch old new → items_left new ≡ items_left old
items_same old new kept =
    ap (λ items. map batch_item items ++ map batch.End new.markers) kept.left
    ∙ ap (λ families. map batch_item old.left ++ map batch.End families) kept.markers

-- what is left of a batch, in a table that has the same of it
leaves_kept : (caps : Caps) (start : List Step) (messages : List (List _)) (old new : State)
    → LeavesBatch caps start messages old → KeepsBatch old new → LeavesBatch caps start messages new
leaves_kept caps start messages old new leaves kept = record {
  left = λ key. ap (λ items. is_left items key) kept.left ∙ leaves.left key;
  says = λ key item is. leaves.says key item (ap (λ items. item_at items key) (sym kept.left) ∙ is);
  markers = kept.markers ∙ leaves.markers;
  follow = subst (MayFollow caps (said_each caps messages)) (sym (items_same old new kept)) leaves.follow;
}

-- whether something is left, by what is
abbrev pub some_left : List Item → List Family → Bool
some_left left markers = elim left [ _ ∷ _ ↦ true | [] ↦ elim markers [ _ ∷ _ ↦ true | [] ↦ false ] ]

open_same : (old new : State) → KeepsBatch old new → is_open new ≡ is_open old
open_same old new kept = ap (λ left. some_left left new.markers) kept.left ∙ ap (some_left old.left) kept.markers

-- the live session in a table that has the same of it, behind a step that speaks of no session
pub live_kept : (caps : Caps) (steps after : List Step) (old new : State) → opened after ≡ opened steps
    → history.batch after ≡ history.batch steps → session_kept caps after ≡ session_kept caps steps
    → ((key : Key) → peer caps after key ≡ peer caps steps key) → KeepsSession old new → KeepsBatch old new
    → StandsLive caps steps old → StandsLive caps after new
live_kept caps steps after old new opens cuts goes_on says kept batch_kept stands = record {
  session = kept.session ∙ stands.session ∙ ap Some (sym goes_on);
  told = λ key. kept.told key ∙ stands.told key ∙ sym (says key);
  open_so = open_same old new batch_kept ∙ stands.open_so ∙ ap is_some (sym opens);
  batch = λ start is. leaves_kept caps start (history.batch after) old new
      (subst (λ messages. LeavesBatch caps start messages old) (sym cuts) (stands.batch start (sym opens ∙ is)))
      batch_kept;
}

-- a family is sent again
again_kept : (caps : Caps) (steps : List Step) (family : Family) → live steps ≡ Some caps
    → again family (session_kept caps steps) ≡ session_kept caps (Refreshed family ∷ steps)
again_kept caps steps Ipv4 is = rw (ap is_some is) refl
again_kept caps steps Ipv6 is = rw (ap is_some is) refl

pub live_refresh : (caps : Caps) (steps : List Step) (old new : State) (family : Family) → live steps ≡ Some caps
    → Refreshes old new family → StandsLive caps steps old → StandsLive caps (Refreshed family ∷ steps) new
live_refresh caps steps old new family is refreshes stands = record {
  session = refreshes.session ∙ ap (option_map (again family)) stands.session
      ∙ ap Some (again_kept caps steps family is);
  told = λ key. refreshes.told key ∙ stands.told key;
  open_so = open_same old new refreshes.batch ∙ stands.open_so;
  batch = λ start at. leaves_kept caps start (history.batch steps) old new (stands.batch start at) refreshes.batch;
}

pub stands_refresh : (steps : List Step) (slot : Slot) (new : State) (family : Family) → Stands steps slot
    → Refreshes slot.table new family
    → Stands (Refreshed family ∷ steps) (slot_with slot new slot.session slot.reset)
stands_refresh steps slot new family stands refreshes = record {
  settings = stands.settings;
  routes = λ key. ap (option_map asked) (refreshes.routes.routes key) ∙ stands.routes key;
  session = stands.session;
  reset = stands.reset;
  live = λ caps is. live_refresh caps steps slot.table new family is refreshes (stands.live caps is);
}

-- nothing was changed that a history knows of
pub stands_calm : (steps : List Step) (slot : Slot) (new : State) → Stands steps slot → IsCalm slot.table new
    → Stands steps (slot_with slot new slot.session slot.reset)
stands_calm steps slot new stands calm = record {
  settings = stands.settings;
  routes = λ key. ap (option_map asked) (calm.routes.routes key) ∙ stands.routes key;
  session = stands.session;
  reset = stands.reset;
  live = λ caps is. live_kept caps steps steps slot.table new refl refl refl (λ key. refl) calm.session calm.batch
      (stands.live caps is);
}

-- routes as they were asked for, where keys were changed
asked_each : (old new : State) (keys : List Key) (route : Option table.Route) (before : Key → Option Route)
    → SetsEach old new keys route → ((key : Key) → option_map asked (route_at old key) ≡ before key) → (key : Key)
    → option_map asked (route_at new key) ≡ (if is_named keys key then option_map asked route else before key)
asked_each old new keys route before sets was key =
    ap (option_map asked) (sets.routes key)
    ∙ elim (is_named keys key) as (λ b. option_map asked (if b then route else route_at old key)
    ≡ (if b then option_map asked route else before key)) [
      | true ↦ refl
      | false ↦ was key
    ]

pub stands_withdraw : (steps : List Step) (slot : Slot) (new : State) (keys : List Key) → Stands steps slot
    → SetsEach slot.table new keys None → Stands (Withdrawn keys ∷ steps) (slot_with slot new slot.session slot.reset)
stands_withdraw steps slot new keys stands sets = record {
  settings = stands.settings;
  routes = asked_each slot.table new keys None (want steps) sets stands.routes;
  session = stands.session;
  reset = stands.reset;
  live = λ caps is. live_kept caps steps (Withdrawn keys ∷ steps) slot.table new refl refl refl (λ key. refl)
      sets.session sets.batch (stands.live caps is);
}

pub stands_announce : (steps : List Step) (slot : Slot) (new : State) (keys : List Key) (number : ℕ) (written : Attrs)
    → value_at slot.table number ≡ Some written → Stands steps slot
    → SetsEach slot.table new keys (option_map (λ w. route_of slot.table.side w keeper.Helper)
    (value_at slot.table number)) → Stands (Announced keys written ∷ steps) (slot_with slot new slot.session slot.reset)
stands_announce steps slot new keys number written value stands sets =
    let is : option_map asked (option_map (λ w. route_of slot.table.side w keeper.Helper) (value_at slot.table number))
    ≡ Some (record { attrs = written; owner = Helper }) =
    ap (λ w. option_map asked (option_map (λ w. route_of slot.table.side w keeper.Helper) w)) value in
    record {
      settings = stands.settings;
      routes = λ key. asked_each slot.table new keys _ (want steps) sets stands.routes key
          ∙ ap (λ (r : Option Route). if is_named keys key then r else want steps key) is;
      session = stands.session;
      reset = stands.reset;
      live = λ caps at. live_kept caps steps (Announced keys written ∷ steps) slot.table new refl refl refl
          (λ key. refl)
          sets.session sets.batch (stands.live caps at);
    }

pub stands_clear : (steps : List Step) (slot : Slot) (new : State) → Stands steps slot → UnsetsAll slot.table new
    → Stands (Cleared ∷ steps) (slot_with slot new slot.session slot.reset)
stands_clear steps slot new stands unsets = record {
  settings = stands.settings;
  routes = λ key. ap (option_map asked) (unsets.routes key);
  session = stands.session;
  reset = stands.reset;
  live = λ caps is. live_kept caps steps (Cleared ∷ steps) slot.table new refl refl refl (λ key. refl)
      unsets.session unsets.batch (stands.live caps is);
}
