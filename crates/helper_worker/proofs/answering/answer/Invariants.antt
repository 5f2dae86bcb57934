use Rattle.helper_worker.proofs.ReplyLemmas.{AnsweredSoFar}
use Rattle.helper_worker.proofs.answering.answer.Given as goal

-- all replies that were taken were written
abbrev pub invariant-loop : goal.invariant-loop
invariant-loop g l =
    AnsweredSoFar l.initial.pass l.fn.h l.fn.inc (g.K.Sink.taken l.fn.sink) (g.K.Sink.taken l.sink) l.pass
