use Rattle.book_core.specs.Moves.{MovesBelow, nothing}
use Rattle.book_core.specs.Settling.{section_in, ArePlannedTo}
use Rattle.book_core.proofs.settling.plan_all.Given as goal

abbrev pub invariant-peers : goal.invariant-peers
invariant-peers l =
    ArePlannedTo l.n (section_in l.sections l.places) l.peers.items l.changes.items
    × MovesBelow l.n nothing l.initial.peers.items l.peers.items
