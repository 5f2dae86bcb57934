use Rattle.route_values.specs.declared.attrs.Attrs.{Attrs}
use Rattle.config_model.specs.Limits.{max_peers}
use Rattle.book_core.specs.Announcing.{announces, AreReadied}
use Rattle.book_core.specs.Moves.{MovesBelow}
use Rattle.book_core.proofs.announcing.announce_all.Given as goal

abbrev pub invariant-peers : goal.invariant-peers
invariant-peers l = (written : Attrs) → AreReadied max_peers l.initial.peers.items l.chosen l.keys written l.numbers
    → MovesBelow l.n (announces l.chosen l.keys written) l.initial.peers.items l.peers.items
