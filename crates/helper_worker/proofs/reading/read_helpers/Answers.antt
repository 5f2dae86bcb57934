use Rattle.helper_worker.proofs.HandingLemmas.{has_go}
use Rattle.helper_worker.proofs.RoundLemmas.{reads_idle, reads_none, reads_out, reads_start}
use Rattle.helper_worker.proofs.reading.read_helpers.Goals as goal

pub loop-init : goal.loop-init
loop-init g c = reads_none _ _ _ _ _

pub returns-in-Stopping : goal.returns-in-Stopping
returns-in-Stopping g c =
    reads_out _ _ _ _ _ _ _ _ _ _ c.loop.invariant c.in-Stopping.ensures.entered c.now-now.ensures

pub loop-preserved-in-Absent : goal.loop-preserved-in-Absent
loop-preserved-in-Absent g c =
    reads_idle _ _ _ _ _ _ _ _ _ _ _ c.loop.invariant c.in-Absent.ensures.entered c.now-now.ensures tt

pub loop-preserved-in-Running : goal.loop-preserved-in-Running
loop-preserved-in-Running g c =
    reads_idle _ _ _ _ _ _ _ _ _ _ _ c.loop.invariant c.in-Running.ensures.entered c.now-now.ensures tt

pub loop-preserved-in-GiveUp : goal.loop-preserved-in-GiveUp
loop-preserved-in-GiveUp g c =
    reads_idle _ _ _ _ _ _ _ _ _ _ _ c.loop.invariant c.in-GiveUp.ensures.entered c.now-now.ensures tt

pub visit-requires-clause-goes : goal.visit-requires-clause-goes
visit-requires-clause-goes g c κs within = has_go _ _ _ _ _ _ _ c.in-Go.ensures.entered

pub loop-preserved : goal.loop-preserved
loop-preserved g c =
    reads_start _ _ _ _ _ _ _ _ _ _ _ _ _ _ _ c.loop.invariant c.in-Go.ensures.entered c.now-now.ensures
    c.deref.ensures.0 c.visit.ensures
