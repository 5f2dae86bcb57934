use Rattle.book_core.specs.Carrying.{carried}
use Rattle.book_core.specs.Moves.{MovesBelow}
use Rattle.book_core.proofs.carrying.carry_all.Given as goal

abbrev pub invariant-peers : goal.invariant-peers
invariant-peers l = MovesBelow l.n (carried l.chosen l.command) l.initial.peers.items l.peers.items
