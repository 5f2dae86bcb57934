use Rattle.helper_worker.proofs.ServingLemmas.{calls_off, fresh_stopped}
use Rattle.helper_worker.proofs.replying.refuse.Goals as goal

pub refuse_one-requires-clause-fresh : goal.refuse_one-requires-clause-fresh
refuse_one-requires-clause-fresh g c = fresh_stopped _ _ _ c.requires.fresh c.stop-off.ensures.makes

pub returns-clause-off : goal.returns-clause-off
returns-clause-off g c = calls_off _ _ _ _ _ _ c.stop-off.ensures.makes c.refuse_one.ensures.refuses
