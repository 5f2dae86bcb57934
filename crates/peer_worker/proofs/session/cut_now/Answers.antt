use Rattle.peer_worker.proofs.StepLemmas.{cut_on, ended_cut}
use Rattle.peer_worker.proofs.session.cut_now.Goals as goal

pub returns-in-Some : goal.returns-in-Some
returns-in-Some g c =
    ended_cut _ _ _ _ _ _ _ _ _ _ _ _ _ c.cut_some-given.ensures c.cause_of.ensures c.in-Some.is c.finish.ensures.goes
    c.finish.ensures.state

pub returns-in-None : goal.returns-in-None
returns-in-None g c =
    cut_on _ _ _ _ _ _ _ _ _ _ c.cut_some-given.ensures c.cause_of.ensures c.in-None.is c.requires.up
