use Rattle.std.specs.Prelude.{ℕ, ◌≡◌, List}
use Rattle.route_values.specs.declared.attrs.Attrs.{Attrs}
use Rattle.peer_history.specs.Steps.{Step}
use Rattle.book_core.specs.Announcing.{announces, nodes_below, AllLegal}
use Rattle.book_core.proofs.announcing.nodes_with.Given as goal

abbrev pub invariant-peers : goal.invariant-peers
invariant-peers l = (steps : ℕ → List Step) (written : Attrs) → AllLegal steps l.peers
    → l.nodes ≡ nodes_below l.n (announces l.chosen l.keys written) steps
