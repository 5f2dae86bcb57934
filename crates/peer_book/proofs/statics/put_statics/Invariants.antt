use Rattle.std.proofs.Common.{take}
use Rattle.peer_book.specs.Slot.{IsSound}
use Rattle.peer_book.specs.Statics.{statics_of, PutsStatics}
use Rattle.peer_book.proofs.statics.put_statics.Given as goal

abbrev pub invariant-routes : goal.invariant-routes
invariant-routes l = record {
  puts : PutsStatics l.fn.table l.table (statics_of (take l.route-index l.routes));
  sound : IsSound l.table;
}
