use Rattle.std.proofs.Common.{arith}
use Rattle.peer_book.proofs.ClearLemmas.{unset_start, unset_whole}
use Rattle.peer_book.proofs.clearing.unset_all.Goals as goal

pub places-init : goal.places-init
places-init c = unset_start c.args.table.now

pub places-preserved : goal.places-preserved
places-preserved c = c.unset_at.ensures c.args.table.now c.places.invariant

pub returns : goal.returns
returns c =
    unset_whole c.args.table.now c.places.table c.places.place
    (omega (arith, c.places-count.ensures.places)) c.places.invariant
