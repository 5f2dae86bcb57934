use Rattle.book_core.specs.Ending.{ended_by}
use Rattle.book_core.specs.Moves.{MovesBelow}
use Rattle.book_core.proofs.ending.end_all.Given as goal

abbrev pub invariant-peers : goal.invariant-peers
invariant-peers l = MovesBelow l.n (ended_by l.code) l.initial.peers.items l.peers.items
