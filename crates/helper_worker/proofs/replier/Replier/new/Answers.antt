use Rattle.helper_worker.proofs.ServingLemmas.{fresh_none}
use Rattle.helper_worker.proofs.replier.Replier.new.Goals as goal

pub invariant_of-result-clause-fresh : goal.invariant_of-result-clause-fresh
invariant_of-result-clause-fresh g c = fresh_none _ _ c.requires.new
