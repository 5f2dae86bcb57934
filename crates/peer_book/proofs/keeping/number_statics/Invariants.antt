use Rattle.std.proofs.Common.{take}
use Rattle.adj_rib_out.specs.Calls.{ReadiesSome}
use Rattle.peer_book.specs.Numbers.{keys_in, AreNumbered}
use Rattle.peer_book.specs.Statics.{statics_of}
use Rattle.peer_book.proofs.keeping.number_statics.Given as goal

abbrev pub invariant-routes : goal.invariant-routes
invariant-routes l = record {
  numbered : AreNumbered l.table (statics_of (take l.route-index l.routes)) l.numbers;
  some : ReadiesSome l.fn.table l.table (keys_in (take l.route-index l.routes));
}
