use Rattle.std.proofs.Common.{length}
use Rattle.outside.specs.Seen.{sink_seen}
use Rattle.script_play.proofs.AnsweredLemmas.{AnsweredFront}
use Rattle.script_play.proofs.answering.answer_piece.Given as goal

-- the lines that end in front of the rest were answered
abbrev pub invariant-lines : goal.invariant-lines
invariant-lines g l = AnsweredFront l.fn.piece l.rest l.fn.cutter l.cutter l.fn.player l.player
    (sink_seen g.K.Sink.taken g.K.Sink.faults l.fn.output) (sink_seen g.K.Sink.taken g.K.Sink.faults l.output)

abbrev pub decreases-lines : goal.decreases-lines
decreases-lines g l = length l.rest
