use Rattle.std.proofs.Common.{◌∙◌, ◌+◌, ◌++◌, List, ℕ, subst, sym}
use Rattle.std.proofs.lemmas.Result.{err_from_is_err_and}
use Rattle.outside.specs.Seen.{sink_seen}
use Rattle.message_decoder.specs.Decoding.{ended}
use Rattle.message_decoder.specs.Streams.{WentOn}
use Rattle.message_decoder.proofs.DecodedLemmas.{stopped_more, stopped_none, went_more}
use Rattle.message_decoder.proofs.decoding.answer_ended.Goals as goal

pub returns-in_err-extend_from_slice-clause-took : goal.returns-in_err-extend_from_slice-clause-took
returns-in_err-extend_from_slice-clause-took g c =
    let e = err_from_is_err_and c.from_residual.result c.from_residual.ensures.1 in
    λ bytes text are.
    rw (e.1, e.2)
    (stopped_none c.args.caps.now bytes c.args.place.now.held.items text (ended c.args.part.now) c.args.place.now.number
    _ are)

pub returns-in_err-answer_line-clause-took : goal.returns-in_err-answer_line-clause-took
returns-in_err-answer_line-clause-took g c =
    let e =
    err_from_is_err_and c.from_residual-in_err-answer_line.result c.from_residual-in_err-answer_line.ensures.1 in
    λ bytes text are.
    rw (e.1, e.2)
    (stopped_more c.args.caps.now bytes c.args.place.now.held.items text c.args.part.now c.deref.result.now
    c.args.place.now.number _ _ _ are c.requires.no_feed
    (c.deref.ensures.value ∙ c.in_ok-extend_from_slice.ensures.items) c.in_err-answer_line.ensures)

pub returns-clause-took : goal.returns-clause-took
returns-clause-took g c =
    let sink = sink_seen g.K.Sink.taken g.K.Sink.faults c.args.output.now in
    let sink' = sink_seen g.K.Sink.taken g.K.Sink.faults c.answer_line.new.output in
    λ bytes text are.
    subst (λ (held : List ℕ). WentOn c.args.caps.now (bytes ++ ended c.args.part.now) text held
    (c.args.place.now.number + 1) sink sink')
    (sym c.clear.ensures.items)
    (went_more c.args.caps.now bytes c.args.place.now.held.items text c.args.part.now c.deref.result.now
    c.args.place.now.number sink sink' are c.requires.no_feed
    (c.deref.ensures.value ∙ c.in_ok-extend_from_slice.ensures.items) c.in_ok-answer_line.ensures)
