use Rattle.std.proofs.Common.{◌+◌, sym, subst}
use Rattle.book_core.specs.Changing.{IsPlanned}
use Rattle.book_core.specs.Moves.{nothing}
use Rattle.book_core.specs.Settling.{ArePlannedTo}
use Rattle.std.specs.Prelude.{slice_set}
use Rattle.book_core.proofs.EndLemmas.{moved_next}
use Rattle.book_core.proofs.SettleLemmas.{planned_next}
use Rattle.book_core.proofs.settling.plan_next.Goals as goal

pub returns : goal.returns
returns c = record {
  planned = λ after is planned.
      subst (ArePlannedTo (c.args.n + 1) after (slice_set c.args.peers.now.items c.args.n c.plan.new.peering))
      (sym c.in_ok-push.ensures.items)
      (planned_next after c.args.peers.now.items c.args.n c.plan.new.peering c.args.changes.now.items
      c.in_ok-change.change
      (subst (λ section. IsPlanned c.plan.new.peering section c.in_ok-change.change) (sym is)
      c.in_ok-change.ensures.planned) planned);
  moved = λ start moved.
      moved_next nothing start c.args.peers.now.items c.args.n c.index_mut-peering.result.now c.plan.new.peering
      c.requires.place c.index_mut-peering.ensures.value c.in_ok-change.ensures.moves moved;
}

pub returns-in_err-change-clause-moved : goal.returns-in_err-change-clause-moved
returns-in_err-change-clause-moved c = λ start moved.
    moved_next nothing start c.args.peers.now.items c.args.n c.index_mut-peering.result.now c.plan.new.peering
    c.requires.place c.index_mut-peering.ensures.value c.in_err-change.ensures.moves moved

pub returns-in_err-push-clause-moved : goal.returns-in_err-push-clause-moved
returns-in_err-push-clause-moved c = λ start moved.
    moved_next nothing start c.args.peers.now.items c.args.n c.index_mut-peering.result.now c.plan.new.peering
    c.requires.place c.index_mut-peering.ensures.value c.in_ok-change.ensures.moves moved
