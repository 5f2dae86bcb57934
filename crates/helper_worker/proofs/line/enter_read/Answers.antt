use Rattle.std.proofs.Common.{false, true, refl}
use Rattle.helper_worker.proofs.RunLemmas.{lines_one, waits_more, waits_none}
use Rattle.helper_worker.proofs.line.enter_read.Goals as goal

pub loop-init : goal.loop-init
loop-init g c = waits_none _ _ _ _ _

pub loop-preserved : goal.loop-preserved
loop-preserved g c = waits_more _ _ _ _ _ _ _ _ c.loop.invariant c.in-Busy.ensures.entered

pub returns-in-Done : goal.returns-in-Done
returns-in-Done g c = lines_one _ _ _ _ _ _ _ _ _ false c.loop.invariant c.in-Done.ensures.entered refl

pub returns-in-Error : goal.returns-in-Error
returns-in-Error g c = lines_one _ _ _ _ _ _ _ _ _ false c.loop.invariant c.in-Error.ensures.entered refl

pub returns-in-Ended : goal.returns-in-Ended
returns-in-Ended g c = lines_one _ _ _ _ _ _ _ _ _ true c.loop.invariant c.in-Ended.ensures.entered (refl, refl)
