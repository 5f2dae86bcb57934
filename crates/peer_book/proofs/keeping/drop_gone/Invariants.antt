use Rattle.peer_book.specs.Keeping.{DropsTo}
use Rattle.peer_book.proofs.keeping.drop_gone.Given as goal

abbrev pub invariant-places : goal.invariant-places
invariant-places l = DropsTo l.numbers l.fn.table l.table l.place
