use Rattle.peer_worker.proofs.StepLemmas.{ended_for, goes_on}
use Rattle.peer_worker.proofs.session.begin.Goals as goal

pub returns-in-Some : goal.returns-in-Some
returns-in-Some g c =
    ended_for _ _ _ _ _ _ _ _ _ _ _ _ c.raise.ensures c.in-Some.is c.finish.ensures.goes c.finish.ensures.state

pub returns-in-None : goal.returns-in-None
returns-in-None g c = goes_on _ _ _ _ _ _ _ _ _ c.raise.ensures c.in-None.is c.requires.up
