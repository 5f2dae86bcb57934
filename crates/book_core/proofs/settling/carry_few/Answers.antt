use Rattle.std.proofs.Common.{◌≤◌, sym, subst}
use Rattle.book_history.specs.Bounds.{max_nodes}
use Rattle.book_core.specs.Counting.{AreTold}
use Rattle.book_core.specs.Planning.{ArePlanned}
use Rattle.book_core.specs.Settling.{section_in}
use Rattle.book_core.proofs.SettleLemmas.{all_still}
use Rattle.book_core.proofs.settling.carry_few.Goals as goal

pub returns-then-nodes-gt-MAX_NODES : goal.returns-then-nodes-gt-MAX_NODES
returns-then-nodes-gt-MAX_NODES c = (
  all_still c.args.peers.now.items,
  c.if-nodes-gt-MAX_NODES.true,
  λ steps told.
      let after = section_in c.args.sections.now c.args.places.now in
      c.in-Some.ensures after steps
      (subst (λ p. ArePlanned after p c.as_slice-2.result.now) (sym c.as_slice.ensures.value)
      (subst (ArePlanned after c.args.peers.now.items) (sym c.as_slice-2.ensures.value) c.requires.plan))
      (subst (AreTold steps) (sym c.as_slice.ensures.value) told),
)

pub returns : goal.returns
returns c = (
  c.carry_all.ensures,
  λ steps told.
      let after = section_in c.args.sections.now c.args.places.now in
      subst (λ k. k ≤ max_nodes)
      (c.in-Some.ensures after steps
      (subst (λ p. ArePlanned after p c.as_slice-2.result.now) (sym c.as_slice.ensures.value)
      (subst (ArePlanned after c.args.peers.now.items) (sym c.as_slice-2.ensures.value) c.requires.plan))
      (subst (AreTold steps) (sym c.as_slice.ensures.value) told)) c.if-nodes-gt-MAX_NODES.false,
)
