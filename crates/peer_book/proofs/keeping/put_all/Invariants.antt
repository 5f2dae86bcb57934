use Rattle.std.proofs.Common.{take}
use Rattle.peer_book.specs.Keeping.{PutsOver}
use Rattle.peer_book.specs.Slot.{IsSound}
use Rattle.peer_book.specs.Statics.{statics_of}
use Rattle.peer_book.proofs.keeping.put_all.Given as goal

abbrev pub invariant-routes : goal.invariant-routes
invariant-routes l = record {
  puts : PutsOver (statics_of (take l.route-index l.routes)) l.numbers l.fn.table l.table;
  sound : IsSound l.table;
}
