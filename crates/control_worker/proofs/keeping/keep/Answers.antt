use Rattle.control_worker.proofs.KeptLemmas.{kept_idle, kept_none, kept_reload}
use Rattle.control_worker.proofs.RoundLemmas.{keeps_end}
use Rattle.control_worker.proofs.keeping.keep.Goals as goal

pub loop-init : goal.loop-init
loop-init g c = kept_none _ _ _ _ _ _

pub loop-preserved-in-Nothing : goal.loop-preserved-in-Nothing
loop-preserved-in-Nothing g c =
    kept_idle _ _ _ _ _ _ _ _ _ _ _ _ c.loop.invariant c.in-Nothing.ensures.entered

pub loop-preserved : goal.loop-preserved
loop-preserved g c =
    kept_reload _ _ _ _ _ _ _ _ _ _ _ _ _ _ _ _ c.loop.invariant c.in-ReloadDue.ensures.entered
    c.reload.ensures.reloads c.reload.ensures.content c.reload.ensures.back

pub returns-in-Stop-clause-keeps : goal.returns-in-Stop-clause-keeps
returns-in-Stop-clause-keeps g c =
    keeps_end _ _ _ _ _ _ _ _ _ _ c.loop.invariant.keeps c.in-Stop.ensures.entered
