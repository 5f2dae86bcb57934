use Rattle.std.proofs.Common.{◌≡◌, ℕ, ◌∙◌, length, ap, arith, subst}
use Rattle.peer_book.specs.Stands as of_peer
use Rattle.book_core.specs.declared.peering.Peering.{Peering}
use Rattle.book_core.specs.Showing.{shown_below}
use Rattle.book_core.proofs.ShownSlotLemmas.{list_next}
use Rattle.book_core.proofs.showing.list_all.Goals as goal

pub peers-init : goal.peers-init
peers-init c = λ steps stand. c.new-routes.ensures.items

pub peers-preserved : goal.peers-preserved
peers-preserved c =
    list_next c.args.peers.now c.args.chosen.now c.args.within.now c.peers.n c.peers.routes.items
    c.list_at.new.routes.items c.is_at.result c.index-peers-n.result
    (omega (arith, c.peers-test.true, c.requires.slots)) c.index-peers-n.is c.is_at.ensures (λ steps stands.
    c.in_ok-list_at.ensures steps
    (subst (of_peer.Stands steps) (ap (λ (p : Peering). p.slot) c.index-peers-n.is) stands))
    c.peers.invariant

pub returns : goal.returns
returns c = λ steps stand.
    c.peers.invariant steps stand
    ∙ ap (λ (many : ℕ). shown_below many c.args.chosen.now c.args.within.now steps)
    (let over = c.peers-test.false in
    let within = c.peers.auto.n-end in
    let all = c.requires.slots in
    let same : c.peers.n ≡ length c.args.peers.now = omega (arith, over, within, all) in same)
