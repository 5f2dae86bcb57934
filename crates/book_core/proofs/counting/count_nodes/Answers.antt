use Rattle.std.proofs.Common.{length, refl, arith}
use Rattle.std.proofs.lemmas.Option.{slice_get_read}
use Rattle.book_core.proofs.CountingLemmas.{nodes_all, nodes_more}
use Rattle.book_core.proofs.counting.count_nodes.Goals as goal

pub peers-init : goal.peers-init
peers-init c = λ after steps planned told. refl

pub peers-preserved : goal.peers-preserved
peers-preserved c = λ after steps planned told.
    let below = c.peers-test.true in
    let all = c.requires.peers in
    let many = c.requires.changes in
    let n = c.peers.n in
    let here =
    slice_get_read c.args.peers.now (length c.args.peers.now) n c.index-peers-n.result refl (omega (arith, below, all))
    c.index-peers-n.is in
    let change =
    slice_get_read c.args.changes.now (length c.args.changes.now) n c.index-changes-n.result refl
    (omega (arith, below, many)) c.index-changes-n.is in
    nodes_more steps after n c.peers.nodes c.in_ok-own.own c.in_ok-nodes.nodes
    (c.peers.invariant after steps planned told)
    (c.in_ok-own.ensures (after n) (steps n) (planned n c.index-peers-n.result c.index-changes-n.result here change)
    (told n c.index-peers-n.result here)) c.in_ok-nodes.ensures

pub returns : goal.returns
returns c = λ after steps planned told.
    let over = c.peers-test.false in
    let within = c.peers.auto.n-end in
    nodes_all steps after c.peers.n c.peers.nodes (omega (arith, over, within))
    (c.peers.invariant after steps planned told)
