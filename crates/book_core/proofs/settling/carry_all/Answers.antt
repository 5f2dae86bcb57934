use Rattle.std.proofs.Common.{sym, arith}
use Rattle.book_core.specs.Settling.{section_in}
use Rattle.book_core.proofs.SettleLemmas.{all_settled, none_settled}
use Rattle.book_core.proofs.settling.carry_all.Goals as goal

pub peers-init : goal.peers-init
peers-init c =
    none_settled (section_in c.args.sections.now c.args.places.now) c.args.peers.now.items c.args.changes.items

pub peers-preserved : goal.peers-preserved
peers-preserved c =
    c.carry_next.ensures (section_in c.args.sections.now c.args.places.now) c.args.peers.now.items c.args.changes.items
    (sym c.section_in-section.ensures) c.peers.invariant

pub returns : goal.returns
returns c =
    let over = c.peers-test.false in
    let within = c.peers.auto.n-end in
    let all = c.requires.peers in
    all_settled (section_in c.args.sections.now c.args.places.now) c.args.peers.now.items c.peers.peers.items
    c.args.changes.items c.peers.left.items c.peers.n (omega (arith, over, within, all)) c.peers.invariant
