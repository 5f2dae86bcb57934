use Rattle.std.proofs.Common.{arith}
use Rattle.helper_worker.proofs.ServingLemmas.{fresh_deaf}
use Rattle.helper_worker.proofs.replying.refuse_one.Goals as goal

pub deafen-done-requires-clause-fresh : goal.deafen-done-requires-clause-fresh
deafen-done-requires-clause-fresh g c = c.requires.fresh _ (omega (arith, c.if-errand-last.false))

pub returns-clause-fresh : goal.returns-clause-fresh
returns-clause-fresh g c =
    fresh_deaf _ _ _ _ _ c.requires.fresh (omega (arith, c.if-errand-last.false)) c.deafen-done.ensures.makes
