use Rattle.helper_worker.specs.Handing.{TookNothing}
use Rattle.helper_worker.proofs.VisitLemmas.{attends, kept_stays}
use Rattle.helper_worker.proofs.visiting.attend.Goals as goal

pub take_back-sink-requires-clause-kept : goal.take_back-sink-requires-clause-kept
take_back-sink-requires-clause-kept g c κs within =
    kept_stays _ (λ held. TookNothing (g.K.Sink.taken held.sink)) _ _ c.hear_out.ensures.makes.front
    c.hand_over-kept.ensures.kept

pub returns : goal.returns
returns g c =
    attends _ _ _ _ _ _ _ _ _ _ _ _ c.hand_over-kept.ensures.makes c.hear_out.ensures c.take_back-sink.ensures.makes
    c.take_back-sink.ensures.back
