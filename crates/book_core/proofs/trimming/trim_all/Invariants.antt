use Rattle.book_core.specs.Moves.{MovesBelow, nothing}
use Rattle.book_core.proofs.trimming.trim_all.Given as goal

abbrev pub invariant-peers : goal.invariant-peers
invariant-peers l = MovesBelow l.n nothing l.initial.peers.items l.peers.items
