use Rattle.std.proofs.Common.{refl, sym, ◌∙◌, subst, arith}
use Rattle.std.proofs.lemmas.List.{length-set}
use Rattle.std.specs.Option.{option_copied}
use Rattle.book_core.proofs.ChoosingLemmas.{ChosenBelow, chosen_all, chosen_next}
use Rattle.book_core.proofs.choosing.choose.Goals as goal

pub peers-init : goal.peers-init
peers-init c = (refl, λ n below. absurd (omega (arith, below)))

pub peers-preserved : goal.peers-preserved
peers-preserved c =
    let long = c.peers.invariant.0 in
    let all = c.requires in
    let below = c.peers-test.true in (
      length-set c.peers.chosen c.peers.n c.is_chosen.result ∙ long,
      chosen_next (option_copied c.args.process) c.args.command.now c.args.peers.now c.peers.chosen c.peers.n
          c.index-peers-n.result c.is_chosen.result (omega (arith, all, below)) (omega (arith, long, below))
          c.index-peers-n.is c.is_chosen.ensures c.peers.invariant.1,
    )

pub returns : goal.returns
returns c =
    let over = c.peers-test.false in
    let within = c.peers.auto.n-end in
    let all = c.requires in
    chosen_all (option_copied c.args.process) c.args.command.now c.args.peers.now c.peers.chosen
    (c.peers.invariant.0 ∙ sym c.requires)
    (subst (λ k. ChosenBelow k (option_copied c.args.process) c.args.command.now c.args.peers.now c.peers.chosen)
    (omega (arith, over, within, all)) c.peers.invariant.1)
