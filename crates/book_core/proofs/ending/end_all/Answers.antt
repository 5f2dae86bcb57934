use Rattle.std.proofs.Common.{arith}
use Rattle.book_core.specs.Ending.{ended_by}
use Rattle.book_core.proofs.EndLemmas.{all_moved, none_moved}
use Rattle.book_core.proofs.ending.end_all.Goals as goal

pub peers-init : goal.peers-init
peers-init c = none_moved (ended_by c.args.code) c.args.peers.now.items

pub peers-preserved : goal.peers-preserved
peers-preserved c = c.end_at.ensures c.args.peers.now.items c.peers.invariant

pub returns : goal.returns
returns c =
    all_moved (ended_by c.args.code) c.args.peers.now.items c.peers.peers.items c.peers.n (omega arith)
    c.peers.invariant
