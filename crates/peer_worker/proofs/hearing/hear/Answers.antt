use Rattle.std.proofs.Common.{◌∙◌, arith}
use Rattle.peer_worker.proofs.MessageLemmas.{fed_within}
use Rattle.peer_worker.proofs.StepLemmas.{gate_stays, goes_more, goes_none}
use Rattle.peer_worker.proofs.hearing.hear.Goals as goal

pub loop-init : goal.loop-init
loop-init g c = record { within = omega arith; goes = goes_none _ _ _ _ _ }

pub hear_all-heard-requires-clause-gate : goal.hear_all-heard-requires-clause-gate
hear_all-heard-requires-clause-gate g c = gate_stays _ _ _ _ _ _ _ _ c.loop.invariant.goes ∙ c.requires.gate

pub loop-preserved : goal.loop-preserved
loop-preserved g c =
    record {
      within = fed_within c.args.piece.now c.loop.taken c.feed-count.result _ c.loop.invariant.within
          c.feed-count.ensures.count;
      goes = goes_more _ _ _ _ _ _ _ _ _ _ _ c.loop.invariant.goes c.hear_all-heard.ensures;
    }

pub returns-then-is_done : goal.returns-then-is_done
returns-then-is_done g c = goes_more _ _ _ _ _ _ _ _ _ _ _ c.loop.invariant.goes c.hear_all-heard.ensures
