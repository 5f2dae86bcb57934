use Rattle.std.proofs.Common.{ap, sym, arith}
use Rattle.book_core.specs.Carrying.{carried}
use Rattle.book_history.specs.PeerSteps.{commanded}
use Rattle.book_core.proofs.EndLemmas.{all_moved, none_moved}
use Rattle.book_core.proofs.carrying.carry_all.Goals as goal

pub peers-init : goal.peers-init
peers-init c = none_moved (carried c.args.chosen.now c.args.command.now) c.args.peers.now.items

pub carry_at-requires-clause-place : goal.carry_at-requires-clause-place
carry_at-requires-clause-place c =
    let below = c.peers-test.true in
    let count = c.peers.invariant.count in
    let all = c.requires.slots in
    omega (arith, below, count, all)

pub peers-preserved : goal.peers-preserved
peers-preserved c =
    c.carry_at.ensures c.args.peers.now.items (carried c.args.chosen.now c.args.command.now)
    (ap (commanded c.args.command.now) (sym c.is_at.ensures)) c.peers.invariant

pub returns : goal.returns
returns c =
    let over = c.peers-test.false in
    let within = c.peers.auto.n-end in
    let all = c.requires.slots in
    all_moved (carried c.args.chosen.now c.args.command.now) c.args.peers.now.items c.peers.peers.items c.peers.n
    (omega (arith, over, within, all)) c.peers.invariant
