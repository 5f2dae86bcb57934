use Rattle.peer_worker.proofs.RoundLemmas.{talks_end, talks_idle, talks_none, talks_visit}
use Rattle.peer_worker.proofs.rounds.talk.Goals as goal

pub loop-init : goal.loop-init
loop-init g c = talks_none _ _ _

pub loop-preserved-in-Is : goal.loop-preserved-in-Is
loop-preserved-in-Is g c =
    talks_visit _ _ _ _ _ _ _ _ _ _ c.loop.invariant c.in-Is.ensures.entered c.visit-stopped.ensures

pub loop-preserved : goal.loop-preserved
loop-preserved g c = talks_idle _ _ _ _ _ _ _ c.loop.invariant c.in-Absent.ensures.entered

pub returns-in-Stopping : goal.returns-in-Stopping
returns-in-Stopping g c = talks_end _ _ _ _ _ _ _ c.loop.invariant c.in-Stopping.ensures.entered
