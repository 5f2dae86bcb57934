use Rattle.std.proofs.Common.{refl}
use Rattle.peer_worker.proofs.StepLemmas.{raise_not, raise_ok}
use Rattle.peer_worker.proofs.session.raise.Goals as goal

pub returns-in-Ok : goal.returns-in-Ok
returns-in-Ok g c =
    raise_ok _ _ _ _ _ _ _ _ _ _ _ c.in-Ok.ensures.entered c.cut_some.ensures c.cause_of.ensures

pub returns-in-Stale : goal.returns-in-Stale
returns-in-Stale g c = raise_not _ _ _ _ _ _ _ _ _ c.in-Stale.ensures.entered refl

pub returns-in-Stopping : goal.returns-in-Stopping
returns-in-Stopping g c = raise_not _ _ _ _ _ _ _ _ _ c.in-Stopping.ensures.entered refl
