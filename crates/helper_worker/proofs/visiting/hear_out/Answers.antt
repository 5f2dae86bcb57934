use Rattle.helper_worker.proofs.VisitLemmas.{hears_out}
use Rattle.helper_worker.proofs.visiting.hear_out.Goals as goal

pub returns : goal.returns
returns g c = hears_out _ _ _ _ _ _ _ _ _ _ c.hear.ensures c.requires.source c.enter.ensures.entered
