use Rattle.std.proofs.Common.{◌≡◌, ℕ, ◌∙◌, length, refl, ap, arith, subst}
use Rattle.peer_book.specs.Stands as of_peer
use Rattle.book_core.specs.declared.peering.Peering.{Peering}
use Rattle.book_core.specs.Showing.{shown_below}
use Rattle.book_core.proofs.ShownSlotLemmas.{count_next}
use Rattle.book_core.proofs.showing.count_all.Goals as goal

pub peers-init : goal.peers-init
peers-init c = λ steps stand. refl

pub peers-preserved : goal.peers-preserved
peers-preserved c =
    count_next c.args.peers.now c.args.chosen.now c.args.within.now c.peers.n c.count_at-own.result c.peers.count
    c.in_ok-count.count c.is_at.result c.index-peers-n.result
    (omega (arith, c.peers-test.true, c.requires.slots)) c.index-peers-n.is c.is_at.ensures (λ steps stands.
    c.count_at-own.ensures steps
    (subst (of_peer.Stands steps) (ap (λ (p : Peering). p.slot) c.index-peers-n.is) stands))
    c.in_ok-count.ensures c.peers.invariant

pub returns : goal.returns
returns c = λ steps stand.
    c.peers.invariant steps stand
    ∙ ap (λ (many : ℕ). length (shown_below many c.args.chosen.now c.args.within.now steps))
    (let over = c.peers-test.false in
    let within = c.peers.auto.n-end in
    let all = c.requires.slots in
    let same : c.peers.n ≡ length c.args.peers.now = omega (arith, over, within, all) in same)
