-- What a legal history of a slot tells.
use Rattle.std.specs.Prelude.{ℕ, ◌≡◌, ◌+◌, ◌≤◌, Bool, true, false, List, ◌∷◌, ◌++◌, length, if◌then◌else◌, Some, IsSome}
use Rattle.std.specs.Prelude.{is_some}
use Rattle.route_values.specs.declared.addr.Family.{Family}
use Rattle.route_values.specs.declared.key.Key.{Key}
use Rattle.route_values.specs.Caps.{Caps}
use Rattle.route_values.specs.Visible.{IsVisible}
use Rattle.update_grammar.specs.Packed.{ArePacked}
use Rattle.peer_history.specs.Batches.{first_cut, batch, is_owed, is_marker_owed, is_left}
use Rattle.peer_history.specs.Cuts.{IsLegal}
use Rattle.peer_history.specs.Keys.{times_named}
use Rattle.peer_history.specs.Messages.{said_each, mentions, times_marked}
use Rattle.peer_history.specs.Nodes.{is_node}
use Rattle.peer_history.specs.Ordered.{AreThose, node_keys, wanted_keys}
use Rattle.peer_history.specs.Sessions.{session, peer}
use Rattle.peer_history.specs.Steps.{Step, Answer, Code}
use Rattle.peer_history.specs.Steps.Step.{Up, Down, Ended, Refreshed, Cut}
use Rattle.peer_history.specs.Steps.Answer.{Message, Nothing}
use Rattle.peer_history.specs.Table.{want, view}

-- A batch became whole with this message, which was cut after these steps. The peer has the table of the batch's first
-- cut. Each key and marker that was owed there was named once, and no other. There were no more messages than keys and
-- families.
pub record LeavesTheTable (caps : Caps) (steps : List Step) (bytes : List ℕ) : Type 0 where
  pub table : (key : Key) → peer caps (Cut (Message bytes true) ∷ steps) key ≡ view caps (first_cut steps) key
  pub named : (key : Key) → times_named (mentions caps (bytes ∷ batch steps)) key
      ≡ (if is_owed caps (first_cut steps) key then 1 else 0)
  pub marked : (family : Family) → times_marked family (bytes ∷ batch steps)
      ≡ (if is_marker_owed caps (first_cut steps) family then 1 else 0)
  pub few : length (bytes ∷ batch steps) ≤ length (mentions caps (bytes ∷ batch steps)) + 2

-- after each whole batch of a legal history the peer has the table of the batch's first cut
abbrev pub WholeBatches : Type 0
WholeBatches = (later steps : List Step) (caps : Caps) (bytes : List ℕ)
    → IsLegal (later ++ (Cut (Message bytes true) ∷ steps)) → session steps ≡ Some caps
    → LeavesTheTable caps steps bytes

-- where a cut answers that nothing is to be sent, the peer has the table of the whole history
abbrev pub NothingPending : Type 0
NothingPending = (later steps : List Step) (caps : Caps) → IsLegal (later ++ (Cut Nothing ∷ steps))
    → session steps ≡ Some caps → (key : Key) → peer caps steps key ≡ view caps steps key

-- what isn't left has its value of the batch's target already
abbrev pub Settled : Type 0
Settled = (steps : List Step) (caps : Caps) → IsLegal steps → session steps ≡ Some caps → (key : Key)
    → is_left caps steps key ≡ false → peer caps steps key ≡ view caps (first_cut steps) key

-- a peer has only keys that its session carries
abbrev pub HeldAreVisible : Type 0
HeldAreVisible = (steps : List Step) (caps : Caps) → IsLegal steps → session steps ≡ Some caps → (key : Key)
    → IsSome (peer caps steps key) → IsVisible key caps

-- and only such keys are owed
abbrev pub LeftAreVisible : Type 0
LeftAreVisible = (steps : List Step) (caps : Caps) → IsLegal steps → session steps ≡ Some caps → (key : Key)
    → is_left caps steps key ≡ true → IsVisible key caps

-- every batch is packed
abbrev pub BatchesArePacked : Type 0
BatchesArePacked = (steps : List Step) (caps : Caps) (bytes : List ℕ) (last : Bool)
    → IsLegal (Cut (Message bytes last) ∷ steps) → session steps ≡ Some caps
    → ArePacked caps (said_each caps (bytes ∷ batch steps))

-- a step makes no key a node that was none
abbrev pub AddsNoNode : Step → Type 0
AddsNoNode step = (steps : List Step) → IsLegal (step ∷ steps) → (key : Key)
    → is_node (step ∷ steps) key ≡ true → is_node steps key ≡ true

-- a session that comes up, goes down or ends, a family that is refreshed, and a cut add no node
pub record SessionsAddNoNode : Type 0 where
  pub up : (caps : Caps) → AddsNoNode (Up caps)
  pub down : AddsNoNode Down
  pub ended : (code : Code) → AddsNoNode (Ended code)
  pub refreshed : (family : Family) → AddsNoNode (Refreshed family)
  pub cut : (answer : Answer) → AddsNoNode (Cut answer)

-- the keys of the table are those that are wanted
abbrev pub WantedAreListed : Type 0
WantedAreListed = (steps : List Step) → AreThose (λ key. is_some (want steps key)) (wanted_keys steps)

-- the route nodes are listed
abbrev pub NodesAreListed : Type 0
NodesAreListed = (steps : List Step) → IsLegal steps → AreThose (is_node steps) (node_keys steps)
