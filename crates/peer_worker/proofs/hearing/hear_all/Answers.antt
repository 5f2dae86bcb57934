use Rattle.std.proofs.Common.{◌∙◌}
use Rattle.peer_worker.proofs.StepLemmas.{gate_stays, goes_more, goes_none}
use Rattle.peer_worker.proofs.hearing.hear_all.Goals as goal

pub loop-init : goal.loop-init
loop-init g c = goes_none _ _ _ _ _

pub hear_front-requires-clause-gate : goal.hear_front-requires-clause-gate
hear_front-requires-clause-gate g c = gate_stays _ _ _ _ _ _ _ _ c.loop.invariant ∙ c.requires.gate

pub returns-then-not-hear_front : goal.returns-then-not-hear_front
returns-then-not-hear_front g c = goes_more _ _ _ _ _ _ _ _ _ _ _ c.loop.invariant c.if-not-hear_front.ensures

pub loop-preserved : goal.loop-preserved
loop-preserved g c = goes_more _ _ _ _ _ _ _ _ _ _ _ c.loop.invariant c.if-not-hear_front.ensures
