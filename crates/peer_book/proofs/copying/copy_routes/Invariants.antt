use Rattle.std.proofs.Common.{◌≡◌}
use Rattle.peer_book.specs.Copying.{CopiesTo}
use Rattle.peer_book.specs.Slot.{IsSound}
use Rattle.peer_book.proofs.copying.copy_routes.Given as goal

abbrev pub invariant-places : goal.invariant-places
invariant-places l = record {
  copies : CopiesTo l.given l.fn.table l.table l.place;
  side : l.table.side ≡ l.side;
  sound : IsSound l.table;
}
