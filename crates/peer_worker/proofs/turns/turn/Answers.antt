use Rattle.peer_worker.proofs.StepLemmas.{goes_more}
use Rattle.peer_worker.proofs.turns.turn.Goals as goal

pub returns : goal.returns
returns g c = goes_more _ _ _ _ _ _ _ _ _ _ _ c.listen.ensures c.tick.ensures
