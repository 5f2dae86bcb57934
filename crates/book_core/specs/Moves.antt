-- What a call does to the neighbour slots.
use Rattle.std.specs.Prelude.{ℕ, ◌≡◌, ◌<◌, ◌≤◌, ◌==◌, List, [], ◌++◌, length, slice_get, Some}
use Rattle.peer_book.specs.Stands as of_peer
use Rattle.peer_history.specs.Steps.{Step}
use Rattle.book_history.specs.PeerSteps.{step_if}
use Rattle.book_core.specs.declared.peering.Peering.{Peering}

-- these steps, the newest first, came to a slot, whatever they came behind; whom it hears stays
pub record Moves (steps : List Step) (old new : Peering) : Type 0 where
  pub slot : (before : List Step) → of_peer.Stands before old.slot → of_peer.Stands (steps ++ before) new.slot
  pub names : new.names ≡ old.names

-- its steps came to each slot below a place, and the others are as they were
pub record MovesBelow (place : ℕ) (steps : ℕ → List Step) (old new : List Peering) : Type 0 where
  pub count : length new ≡ length old
  pub below : (n : ℕ) (was is : Peering) → n < place → slice_get old n ≡ Some was → slice_get new n ≡ Some is
      → Moves (steps n) was is
  pub above : (n : ℕ) → place ≤ n → slice_get new n ≡ slice_get old n

-- no step for any slot
abbrev pub nothing : ℕ → List Step
nothing n = []

-- its steps came to each slot
abbrev pub MovesAll : (ℕ → List Step) → List Peering → List Peering → Type 0
MovesAll steps old new = MovesBelow (length old) steps old new

-- these steps come to one slot
abbrev pub only_to : ℕ → List Step → ℕ → List Step
only_to n steps m = step_if (n == m) steps
