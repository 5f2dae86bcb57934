use Rattle.std.proofs.Common.{arith}
use Rattle.peer_book.proofs.DroppingLemmas.{drop_start, drop_whole}
use Rattle.peer_book.proofs.keeping.drop_gone.Goals as goal

pub places-init : goal.places-init
places-init c = drop_start c.args.numbers.now c.args.table.now

pub places-preserved : goal.places-preserved
places-preserved c = c.drop_at.ensures c.args.table.now c.places.invariant

pub returns : goal.returns
returns c =
    drop_whole c.args.numbers.now c.args.table.now c.places.table c.places.place
    (omega (arith, c.places-count.ensures.places)) c.places.invariant
