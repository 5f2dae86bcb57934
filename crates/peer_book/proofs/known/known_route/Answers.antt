use Rattle.std.proofs.Common.{subst}
use Rattle.std.specs.List.{AllByRecursion}
use Rattle.update_grammar.specs.Values.{IsExt, IsLarge}
use Rattle.peer_book.specs.Known.{AreNumbers}
use Rattle.peer_book.proofs.KnownLemmas.{route_known}
use Rattle.peer_book.proofs.known.known_route.Goals as goal

pub returns : goal.returns
returns c =
    route_known c.args.side.now c.known_side.ensures.local_as c.known_side.ensures.local c.args.written.now
    c.known_hop.ensures c.known_path.ensures c.known_if.ensures c.known_if-2.ensures c.known_aggregator.ensures
    (subst AreNumbers c.as_slice.ensures c.known_numbers.ensures) c.known_if-3.ensures
    (subst AreNumbers c.as_slice-2.ensures c.known_numbers-2.ensures)
    (subst (AllByRecursion IsExt) c.as_slice-3.ensures c.known_exts.ensures)
    (subst (AllByRecursion IsLarge) c.as_slice-4.ensures c.known_larges.ensures)
