use Rattle.std.proofs.Common.{arith}
use Rattle.helper_worker.proofs.ServingLemmas.{fresh_served, serves_none, serves_served}
use Rattle.helper_worker.proofs.replying.reply_to.Goals as goal

pub returns-then-errand-h-clause-serves : goal.returns-then-errand-h-clause-serves
returns-then-errand-h-clause-serves g c = serves_none _ _ _

pub returns-then-errand-last-clause-serves : goal.returns-then-errand-last-clause-serves
returns-then-errand-last-clause-serves g c = serves_none _ _ _

pub serve-done-requires-clause-fresh : goal.serve-done-requires-clause-fresh
serve-done-requires-clause-fresh g c κs within = c.requires.fresh _ (omega (arith, c.if-errand-last.false))

pub returns-clause-serves : goal.returns-clause-serves
returns-clause-serves g c =
    serves_served _ _ _ _ _ (omega (arith, c.if-errand-last.false)) c.serve-done.ensures.serves

pub returns-clause-fresh : goal.returns-clause-fresh
returns-clause-fresh g c =
    fresh_served _ _ _ _ _ c.requires.fresh (omega (arith, c.if-errand-last.false)) c.serve-done.ensures.serves
