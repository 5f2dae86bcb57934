use Rattle.helper_worker.proofs.VisitLemmas.{visits_failed, visits_heard}
use Rattle.helper_worker.proofs.visiting.visit.Goals as goal

pub returns-in-Open : goal.returns-in-Open
returns-in-Open g c =
    visits_heard _ _ _ _ _ _ _ _ _ _ _ _ _ _ _ _ _ _ _ _ c.attend-pipes.ensures c.in-Open.ensures.children
    c.give_back.ensures.children c.in-Open.ensures.asked c.give_back.ensures.asked c.in-Open.ensures.failed
    c.give_back.ensures.failed

pub returns-in-Failed : goal.returns-in-Failed
returns-in-Failed g c =
    visits_failed _ _ _ _ _ _ _ _ _ _ _ _ _ c.enter.ensures.entered c.in-Failed.ensures.children
    c.in-Failed.ensures.asked c.in-Failed.ensures.failed
