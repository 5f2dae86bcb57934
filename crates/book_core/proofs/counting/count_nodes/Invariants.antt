use Rattle.std.specs.Prelude.{ℕ, ◌≡◌, List, Option}
use Rattle.config_model.specs.declared.sections.Neighbor.{Neighbor}
use Rattle.peer_history.specs.Steps.{Step}
use Rattle.book_core.specs.Counting.{nodes_below, AreTold}
use Rattle.book_core.specs.Planning.{ArePlanned}
use Rattle.book_core.proofs.counting.count_nodes.Given as goal

abbrev pub invariant-peers : goal.invariant-peers
invariant-peers l = (after : ℕ → Option Neighbor) (steps : ℕ → List Step) → ArePlanned after l.peers l.changes
    → AreTold steps l.peers → l.nodes ≡ nodes_below l.n steps after
