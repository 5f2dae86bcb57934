use Rattle.std.proofs.Common.{◌≡◌, ℕ, List}
use Rattle.peer_history.specs.Steps.{Step}
use Rattle.book_core.specs.Showing.{shown_below, AllStand}
use Rattle.book_core.proofs.showing.list_all.Given as goal

abbrev pub invariant-peers : goal.invariant-peers
invariant-peers l = (steps : ℕ → List Step) → AllStand steps l.peers
    → l.routes.items ≡ shown_below l.n l.chosen l.within steps
