-- How many route nodes there would be behind a reload.
use Rattle.std.specs.Prelude.{ℕ, ◌≡◌, ◌∷◌, ◌++◌, List, length, slice_get, Option, Some}
use Rattle.std.specs.List.{sum_by}
use Rattle.route_values.specs.declared.key.Key.{Key}
use Rattle.route_values.specs.declared.settings.Settings.{Settings}
use Rattle.config_model.specs.declared.sections.Neighbor.{Neighbor}
use Rattle.peer_book.specs.Numbers.{AreNumbered}
use Rattle.peer_book.specs.Slot.{Slot}
use Rattle.peer_book.specs.Stands as of_peer
use Rattle.peer_history.specs.Cuts.{IsLegal}
use Rattle.peer_history.specs.Ordered.{node_keys}
use Rattle.peer_history.specs.Steps.{Step, Static}
use Rattle.peer_history.specs.Steps.Step.{Kept}
use Rattle.peer_history.specs.Table.{settings_in}
use Rattle.book_history.specs.Bounds.{numbers_from}
use Rattle.book_core.specs.declared.peering.Peering.{Peering}
use Rattle.book_core.specs.Changing.{exchanged_by, IsClosed}

-- what a slot tells of the nodes that it would have with static routes that stand ready
abbrev pub NodesKept : Slot → List (Key × ℕ) → ℕ → Type 0
NodesKept slot numbers nodes = (steps : List Step) (settings : Settings) (statics : List Static)
    → IsLegal steps → of_peer.Stands steps slot → AreNumbered slot.table statics numbers
    → nodes ≡ length (node_keys (Kept settings statics ∷ steps))

-- a slot stands for steps of which each cut was allowed, and by which no session is live without a neighbour
pub record IsTold (steps : List Step) (slot : Slot) : Type 0 where
  pub legal : IsLegal steps
  pub closed : IsClosed steps
  pub stands : of_peer.Stands steps slot

abbrev pub AreTold : (ℕ → List Step) → List Peering → Type 0
AreTold steps peers = (n : ℕ) (is : Peering) → slice_get peers n ≡ Some is → IsTold (steps n) is.slot

-- how many nodes a slot has behind the steps that a reload is to it
abbrev pub nodes_behind : List Step → Option Neighbor → ℕ
nodes_behind steps after = length (node_keys (exchanged_by (settings_in steps) after ++ steps))

-- how many the first slots have
abbrev pub nodes_below : ℕ → (ℕ → List Step) → (ℕ → Option Neighbor) → ℕ
nodes_below many steps after = sum_by (λ n. nodes_behind (steps n) (after n)) (numbers_from 0 many)
