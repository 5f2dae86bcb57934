use Rattle.peer_book.specs.Clearing.{UnsetsTo}
use Rattle.peer_book.proofs.clearing.unset_all.Given as goal

abbrev pub invariant-places : goal.invariant-places
invariant-places l = UnsetsTo l.fn.table l.table l.place
