use Rattle.std.proofs.Common.{◌≡◌, ◌∷◌, [], get_or, refl, ap, ◌∙◌, arith}
use Rattle.std.proofs.lemmas.Option.{slice_get-get_or}
use Rattle.config_model.specs.Limits.{max_peers}
use Rattle.peer_history.specs.Steps.Step.{Announced}
use Rattle.book_history.specs.PeerSteps.{step_if}
use Rattle.book_core.specs.Announcing.{announces, nodes_after, nodes_below}
use Rattle.book_core.proofs.AnnounceLemmas.{nodes_next}
use Rattle.book_core.proofs.announcing.nodes_with.Goals as goal

pub peers-init : goal.peers-init
peers-init c = λ steps written legal. refl

pub peers-preserved : goal.peers-preserved
peers-preserved c = λ steps written legal.
    let below = c.peers-test.true in
    let all = c.requires.slots in
    let n = c.peers.n in
    let is = get_or c.args.peers.now n c.index-peers-n.result in
    let here = slice_get-get_or c.args.peers.now n c.index-peers-n.result (omega (arith, below, all)) in
    let own = legal n is here in
    nodes_next (announces c.args.chosen.now c.args.keys.now written) steps n c.peers.nodes c.in_ok-own.own
    c.in_ok-nodes.nodes (c.peers.invariant steps written legal)
    (c.in_ok-own.ensures (steps n) written own.0 own.1
    ∙ ap (λ b. nodes_after (step_if b (Announced c.args.keys.now written ∷ [])) (steps n)) c.is_at.ensures)
    c.in_ok-nodes.ensures

pub returns : goal.returns
returns c = λ steps written legal.
    let over = c.peers-test.false in
    let within = c.peers.auto.n-end in
    let whole : c.peers.n ≡ max_peers = omega (arith, over, within) in
    c.peers.invariant steps written legal
    ∙ ap (λ k. nodes_below k (announces c.args.chosen.now c.args.keys.now written) steps) whole
