use Rattle.std.proofs.Common.{rules}
use Rattle.control_worker.proofs.RoundLemmas.{reloads_loaded, reloads_refused}
use Rattle.control_worker.proofs.keeping.reload.Goals as goal

pub returns-in-Ok-clause-reloads : goal.returns-in-Ok-clause-reloads
returns-in-Ok-clause-reloads g c =
    reloads_loaded _ _ _ _ _ _ _ _ _ _ c.enter.ensures.entered c.in-Ok.ensures.config
    (c.in-Ok.ensures.same (search rules))

pub returns-in-Err-clause-reloads : goal.returns-in-Err-clause-reloads
returns-in-Err-clause-reloads g c =
    reloads_refused _ _ _ _ _ _ _ _ _ _ c.enter-in-Err.ensures.entered c.in-Err.ensures.none
    c.in-Err.ensures.count c.in-Err.ensures.same
