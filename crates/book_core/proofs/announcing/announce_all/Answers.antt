use Rattle.std.proofs.Common.{◌∷◌, [], ap, sym, arith}
use Rattle.peer_history.specs.Steps.Step.{Announced}
use Rattle.book_history.specs.PeerSteps.{step_if}
use Rattle.book_core.specs.Announcing.{announces}
use Rattle.book_core.proofs.AnnounceLemmas.{ready_there}
use Rattle.book_core.proofs.EndLemmas.{all_moved, none_moved}
use Rattle.book_core.proofs.announcing.announce_all.Goals as goal

pub peers-init : goal.peers-init
peers-init c = λ written readied.
    none_moved (announces c.args.chosen.now c.args.keys.now written) c.args.peers.now.items

pub announce_at-requires-clause-place : goal.announce_at-requires-clause-place
announce_at-requires-clause-place c =
    let below = c.peers-test.true in
    let moved = c.peers.invariant c.requires.readied.0 c.requires.readied.1 in
    let count = moved.count in
    let all = c.requires.slots in
    omega (arith, below, count, all)

pub announce_at-requires-clause-readied : goal.announce_at-requires-clause-readied
announce_at-requires-clause-readied c = λ is at so.
    let written = c.requires.readied.0 in
    let readied = c.requires.readied.1 in (
      written,
      ready_there c.peers.n (announces c.args.chosen.now c.args.keys.now written) c.args.peers.now.items
          c.peers.peers.items c.args.chosen.now c.args.keys.now written c.args.numbers.now c.number_at.result
          c.is_at.result c.peers-test.true c.is_at.ensures c.number_at.ensures readied
          (c.peers.invariant written readied) is at so,
    )

pub peers-preserved : goal.peers-preserved
peers-preserved c = λ written readied.
    let steps = announces c.args.chosen.now c.args.keys.now written in
    c.announce_at.ensures c.args.peers.now.items steps written
    (ap (λ b. step_if b (Announced c.args.keys.now written ∷ [])) (sym c.is_at.ensures))
    (ready_there c.peers.n steps c.args.peers.now.items c.peers.peers.items c.args.chosen.now c.args.keys.now written
    c.args.numbers.now c.number_at.result c.is_at.result c.peers-test.true c.is_at.ensures c.number_at.ensures readied
    (c.peers.invariant written readied)) (c.peers.invariant written readied)

pub returns : goal.returns
returns c = λ written readied.
    let over = c.peers-test.false in
    let within = c.peers.auto.n-end in
    let all = c.requires.slots in
    all_moved (announces c.args.chosen.now c.args.keys.now written) c.args.peers.now.items c.peers.peers.items c.peers.n
    (omega (arith, over, within, all)) (c.peers.invariant written readied)
