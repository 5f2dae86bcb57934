-- The route nodes of a slot are those of its history.
use Rattle.std.proofs.Common.{◌≡◌, ℕ, ◌+◌, Bool, true, false, not, List, [], ◌∷◌, length, Some, None, refl, sym}
use Rattle.std.proofs.Common.{ap, ◌∙◌}
use Rattle.std.specs.Prelude.{◌&&◌, ◌||◌, Option, is_some, unwrap_or, if◌then◌else◌}
use Rattle.std.specs.Option.{option_map}
use Rattle.std.proofs.lemmas.List.{length-append}
use Rattle.route_values.specs.declared.attrs.Attrs.{Attrs}
use Rattle.route_values.specs.declared.attrs.WireAttrs.{WireAttrs}
use Rattle.route_values.specs.declared.addr.Family.{Family}
use Rattle.route_values.specs.declared.key.Key.{Key}
use Rattle.route_values.specs.Caps.{Caps}
use Rattle.route_values.specs.Key.{same_key}
use Rattle.adj_rib_out.specs.State.{State, Session, Item, Route, route_at, is_ready}
use Rattle.adj_rib_out.specs.Batch.{attrs_said, item_at}
use Rattle.adj_rib_out.specs.Batch as table
use Rattle.adj_rib_out.specs.Nodes.{announces, is_kept, is_node, nodes, AreApart}
use Rattle.peer_history.specs.Batches.{opened, batch, is_owed}
use Rattle.peer_history.specs.Cuts.{IsLegal}
use Rattle.peer_history.specs.Keys.{is_named}
use Rattle.peer_history.specs.Laws.{NodesAreListed, Settled}
use Rattle.peer_history.specs.Messages.{mentions}
use Rattle.peer_history.specs.Nodes.{is_targeted, is_held}
use Rattle.peer_history.specs.Nodes as history
use Rattle.peer_history.specs.Ordered.{node_keys}
use Rattle.peer_history.specs.Sessions.{session, reset, live, peer}
use Rattle.peer_history.specs.Steps.{Step}
use Rattle.peer_history.specs.Steps.Step.{Announced}
use Rattle.peer_history.specs.Table.{want, view}
use Rattle.peer_history.specs.Table as wanted
use Rattle.peer_book.specs.Nodes.{new_keys}
use Rattle.peer_book.specs.Slot.{Slot, live_caps, IsIdle, IsKept}
use Rattle.peer_book.specs.Stands.{asked, LeavesBatch, StandsLive, Stands}
use Rattle.peer_book.specs.Statics.{StandsWithout}
use Rattle.peer_book.proofs.CountingLemmas.{once, nodes_listed, those_both, new_times}
use Rattle.peer_book.proofs.StandsLemmas.{some_left}

-- ---- what a live session needs

-- a table of which nothing is left
none_open : (left : List Item) (markers : List Family) → some_left left markers ≡ false → left ≡ []
none_open [] markers shut = refl
none_open (item ∷ items) markers shut = absurd (let no_way : true ≡ false = shut in cc)

-- a key that is left has an item
pub left_item : (items : List Item) (key : Key) → table.is_left items key ≡ true
    → (item : Item) × (item_at items key ≡ Some item)
left_item [] key left = absurd (let no_way : false ≡ true = left in cc)
left_item (first ∷ items) key left =
    elim (same_key first.key key) as (λ b. (b || table.is_left items key) ≡ true
    → (item : Item) × ((elim b [ true ↦ Some first | false ↦ item_at items key ]) ≡ Some item)) [
      | true ↦ λ there. (first, refl)
      | false ↦ λ there. left_item items key there
    ] left

-- and one that isn't has none
no_item : (items : List Item) (key : Key) → table.is_left items key ≡ false → item_at items key ≡ None
no_item [] key gone = refl
no_item (first ∷ items) key gone =
    elim (same_key first.key key) as (λ b. (b || table.is_left items key) ≡ false
    → ◌≡◌ {A = Option Item} (elim b [ true ↦ Some first | false ↦ item_at items key ]) None) [
      | true ↦ λ there. absurd (let no_way : true ≡ false = there in cc)
      | false ↦ λ there. no_item items key there
    ] gone

said_some : (says : Option (ℕ × WireAttrs)) → is_some says ≡ is_some (attrs_said says)
said_some None = refl
said_some (Some said) = refl

or_self : (b : Bool) → b ≡ (b || b)
or_self true = refl
or_self false = refl

or_false : (b : Bool) → (b || false) ≡ b
or_false true = refl
or_false false = refl

-- what is left to be announced, or was sent, is what the peer has or the target does
module _ (law : Settled) (caps : Caps) (steps : List Step) (state : State) (legal : IsLegal steps)
    (up : session steps ≡ Some caps) (stands : StandsLive caps steps state) (key : Key) where
  of_item : (start : List Step) → opened steps ≡ Some start → LeavesBatch caps start (batch steps) state
      → (b : Bool) → table.is_left state.left key ≡ b
      → (is_some (peer caps steps key) || announces (item_at state.left key))
      ≡ (is_some (peer caps steps key) || is_some (view caps start key))
  of_item start at leaves true left =
      let found = left_item state.left key left in
      ap (λ (item : Option Item). is_some (peer caps steps key) || announces item) found.1
      ∙ ap (λ b. is_some (peer caps steps key) || b)
      (said_some found.0.says ∙ ap is_some (leaves.says key found.0 found.1))
  of_item start at leaves false left =
      let first : unwrap_or (opened steps) steps ≡ start = ap (λ (o : Option (List Step)). unwrap_or o steps) at in
      let settled : peer caps steps key ≡ view caps start key =
      law steps caps legal up key (ap (λ (s : List Step). is_owed caps s key
      && not (is_named (mentions caps (batch steps)) key))
      first ∙ sym (leaves.left key) ∙ left)
      ∙ ap (λ (s : List Step). view caps s key) first in
      ap (λ (item : Option Item). is_some (peer caps steps key) || announces item) (no_item state.left key left)
      ∙ or_false (is_some (peer caps steps key)) ∙ or_self (is_some (peer caps steps key))
      ∙ ap (λ (w : Option WireAttrs). is_some (peer caps steps key) || is_some w) settled

  by_opened : (was : Option (List Step)) → opened steps ≡ was
      → (is_some (peer caps steps key) || announces (item_at state.left key))
      ≡ (is_some (peer caps steps key) || is_targeted caps was key)
  by_opened None at =
      let none : state.left ≡ [] =
      none_open state.left state.markers (stands.open_so ∙ ap (λ (o : Option (List Step)). is_some o) at) in
      ap (λ (items : List Item). is_some (peer caps steps key) || announces (item_at items key)) none
  by_opened (Some start) at = of_item start at (stands.batch start at) (table.is_left state.left key) refl

  pub held_same : is_kept state key ≡ is_held (Some caps) steps key
  held_same = ap (λ (w : Option WireAttrs). is_some w || announces (item_at state.left key)) (stands.told key)
      ∙ by_opened (opened steps) refl

-- nothing is kept of a table without a session
pub kept_idle : (state : State) (key : Key) → IsIdle state → is_kept state key ≡ false
kept_idle state key idle =
    ap (λ (w : Option WireAttrs). is_some w || announces (item_at state.left key)) (idle.told key)
    ∙ ap (λ (items : List Item). announces (item_at items key)) idle.left

-- ---- slots

none_up : (was : Option Session) → option_map (λ (s : Session). s.caps) was ≡ None → was ≡ None
none_up None is = refl
none_up (Some before) is = absurd (let no_way : ◌≡◌ {A = Option Caps} (Some before.caps) None = is in cc)

-- a session that is live stands
pub live_stands : (steps : List Step) (caps : Caps) → live steps ≡ Some caps → session steps ≡ Some caps
live_stands steps caps is =
    elim (is_some (reset steps)) as (λ b. (if b then None else session steps) ≡ Some caps → session steps ≡ Some caps) [
      | true ↦ λ at. absurd (let no_way : ◌≡◌ {A = Option Caps} None (Some caps) = at in cc)
      | false ↦ λ at. at
    ] is

-- the live session of a slot is that of its history
pub live_same : (steps : List Step) (slot : Slot) → Stands steps slot → live_caps slot ≡ live steps
live_same steps slot stands =
    ap (λ (code : Option _). if is_some code then None else slot.session) stands.reset
    ∙ ap (λ (up : Option Caps). if is_some (reset steps) then None else up) stands.session

asked_some : (route : Option Route) (want : Option wanted.Route) → option_map asked route ≡ want
    → is_some route ≡ is_some want
asked_some None want is = ap is_some is
asked_some (Some route) want is = ap is_some is

-- what is kept of a slot's table is what its history's session needs
pub kept_same : Settled → (steps : List Step) (slot : Slot) → IsLegal steps → IsKept slot → Stands steps slot
    → (key : Key) → is_kept slot.table key ≡ is_held (live steps) steps key
kept_same law steps slot legal kept stands key = by_live (live steps) refl
  where
    by_live : (up : Option Caps) → live steps ≡ up → is_kept slot.table key ≡ is_held up steps key
    by_live None at =
        kept_idle slot.table key
        (kept.idle (none_up slot.table.session (kept.session ∙ live_same steps slot stands ∙ at)))
    by_live (Some caps) at =
        held_same law caps steps slot.table legal (live_stands steps caps at) (stands.live caps at) key

-- a key is a node of a slot where it is one of its history
pub node_same : Settled → (steps : List Step) (slot : Slot) → IsLegal steps → IsKept slot → Stands steps slot
    → (key : Key) → is_node slot.table key ≡ history.is_node steps key
node_same law steps slot legal kept stands key =
    ap (λ b. b || is_kept slot.table key) (asked_some (route_at slot.table key) (want steps key) (stands.routes key))
    ∙ ap (λ b. is_some (want steps key) || b) (kept_same law steps slot legal kept stands key)

-- the same of a slot whose neighbour is to come, where no session is live
pub node_without : (steps : List Step) (slot : Slot) → IsKept slot → StandsWithout steps slot → live steps ≡ None
    → live_caps slot ≡ None → (key : Key) → is_node slot.table key ≡ history.is_node steps key
node_without steps slot kept without ended fresh key =
    ap (λ b. b || is_kept slot.table key) (asked_some (route_at slot.table key) (want steps key) (without.routes key))
    ∙ ap (λ b. is_some (want steps key) || b) (kept_idle slot.table key
    (kept.idle (none_up slot.table.session (kept.session ∙ fresh)))
    ∙ ap (λ (up : Option Caps). is_held up steps key) (sym ended))

-- where each node of a table stands ready
abbrev pub NodesReady : State → Type 0
NodesReady state = (key : Key) → is_node state key ≡ true → is_ready state key ≡ true

pub nodes_told : NodesAreListed → Settled → (steps : List Step) (slot : Slot) → AreApart slot.table.rows
    → NodesReady slot.table → IsKept slot → IsLegal steps → Stands steps slot
    → nodes slot.table ≡ length (node_keys steps)
nodes_told listed law steps slot apart ready kept legal stands =
    nodes_listed slot.table (history.is_node steps) (node_keys steps) apart ready (listed steps legal)
    (node_same law steps slot legal kept stands)

pub nodes_without : NodesAreListed → (steps : List Step) (slot : Slot) → AreApart slot.table.rows
    → NodesReady slot.table → IsKept slot → IsLegal steps → StandsWithout steps slot → live steps ≡ None
    → live_caps slot ≡ None → nodes slot.table ≡ length (node_keys steps)
nodes_without listed steps slot apart ready kept legal without ended fresh =
    nodes_listed slot.table (history.is_node steps) (node_keys steps) apart ready (listed steps legal)
    (node_without steps slot kept without ended fresh)

-- ---- an announcement

-- what a session needs doesn't go by an announcement
held_announced : (keys : List Key) (written : Attrs) (steps : List Step) (key : Key) (up : Option Caps)
    → is_held up (Announced keys written ∷ steps) key ≡ is_held up steps key
held_announced keys written steps key None = refl
held_announced keys written steps key (Some caps) = refl

-- a key is a node behind an announcement where it was one, or is a new one
node_added : (named held : Bool) (was : Option wanted.Route) (route : wanted.Route)
    → once (is_some (if named then Some route else was) || held)
    ≡ once (is_some was || held) + once (not (is_some was || held) && named)
node_added true true None route = refl
node_added true false None route = refl
node_added true held (Some before) route = refl
node_added false true None route = refl
node_added false false None route = refl
node_added false held (Some before) route = refl

pub adds_told : NodesAreListed → Settled → (steps : List Step) (slot : Slot) (keys : List Key) (written : Attrs)
    → IsKept slot → IsLegal steps → Stands steps slot
    → length (node_keys (Announced keys written ∷ steps))
    ≡ length (node_keys steps) + length (new_keys (is_node slot.table) keys)
adds_told listed law steps slot keys written kept legal stands =
    those_both (history.is_node (Announced keys written ∷ steps)) (history.is_node steps)
    (λ key. not (is_node slot.table key) && is_named keys key) (node_keys (Announced keys written ∷ steps))
    (node_keys steps) (new_keys (is_node slot.table) keys) (listed (Announced keys written ∷ steps) legal)
    (listed steps legal) (new_times (is_node slot.table) keys) (λ key.
    let same = node_same law steps slot legal kept stands key in
    ap (λ b. once (is_some (want (Announced keys written ∷ steps) key) || b))
    (held_announced keys written steps key (live steps))
    ∙ node_added (is_named keys key) (is_held (live steps) steps key) (want steps key)
    (record { attrs = written; owner = wanted.Helper })
    ∙ ap (λ b. once (history.is_node steps key) + once (not b && is_named keys key)) (sym same))
    ∙ length-append (node_keys steps) (new_keys (is_node slot.table) keys)
