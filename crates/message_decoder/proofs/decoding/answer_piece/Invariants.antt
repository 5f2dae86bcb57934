use Rattle.std.proofs.Common.{length}
use Rattle.outside.specs.Seen.{sink_seen}
use Rattle.message_decoder.proofs.PieceLemmas.{TookFront}
use Rattle.message_decoder.proofs.decoding.answer_piece.Given as goal

-- the lines that end in front of the rest were answered
abbrev pub invariant-lines : goal.invariant-lines
invariant-lines g l =
    TookFront l.caps l.fn.piece l.rest l.fn.place.held.items l.place.held.items l.fn.place.number l.place.number
    (sink_seen g.K.Sink.taken g.K.Sink.faults l.fn.output) (sink_seen g.K.Sink.taken g.K.Sink.faults l.output)

abbrev pub decreases-lines : goal.decreases-lines
decreases-lines g l = length l.rest
