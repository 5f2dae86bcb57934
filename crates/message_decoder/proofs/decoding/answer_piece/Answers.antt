use Rattle.std.proofs.Common.{arith}
use Rattle.std.proofs.lemmas.Result.{err_from_is_err_and}
use Rattle.text_forms.proofs.CutLemmas.{lacks_from_all}
use Rattle.message_decoder.proofs.PieceLemmas.{front_all, front_few, front_lost, front_more, front_none, front_short}
use Rattle.message_decoder.proofs.PieceLemmas.{front_stopped}
use Rattle.message_decoder.proofs.decoding.answer_piece.Goals as goal

pub lines-init : goal.lines-init
lines-init g c = front_none _ _ _ _ _

pub answer_ended-requires-clause-few : goal.answer_ended-requires-clause-few
answer_ended-requires-clause-few g c =
    let few = front_few _ _ _ _ _ _ _ _ _ _ _ c.lines.invariant c.in-Some.ensures.found in
    omega (arith, few)

pub answer_ended-requires-clause-no_feed : goal.answer_ended-requires-clause-no_feed
answer_ended-requires-clause-no_feed g c = lacks_from_all 10 _ c.in-Some.ensures.first

pub returns-in_err-answer_ended-clause-took : goal.returns-in_err-answer_ended-clause-took
returns-in_err-answer_ended-clause-took g c =
    let e = err_from_is_err_and c.from_residual.result c.from_residual.ensures.1 in
    rw (e.1, e.2) (front_stopped _ _ _ _ _ _ _ c.args.place.now.held.items c.args.place.now.held.items
    _ _ c.args.place.now.number c.args.place.now.number _ _ _ _ c.lines.invariant c.in-Some.ensures.found
    c.in_err-answer_ended.ensures.took)

pub lines-preserved : goal.lines-preserved
lines-preserved g c =
    front_more _ _ _ _ _ _ _ _ _ _ _ _ _ _ c.lines.invariant c.in-Some.ensures.found c.in_ok-answer_ended.ensures.count
    c.in_ok-answer_ended.ensures.took

pub returns-in_err-extend_from_slice-clause-took : goal.returns-in_err-extend_from_slice-clause-took
returns-in_err-extend_from_slice-clause-took g c =
    let e = err_from_is_err_and c.from_residual-in_err-extend_from_slice.result
    c.from_residual-in_err-extend_from_slice.ensures.1 in
    rw (e.1, e.2) (front_lost _ _ _ _ _ c.args.place.now.held.items _ _ c.args.place.now.number _ _ c.lines.invariant)

pub returns-clause-took : goal.returns-clause-took
returns-clause-took g c =
    front_all _ _ _ _ _ _ _ _ _ _ c.lines.invariant (lacks_from_all 10 _ c.in_default.ensures.none)
    c.in_ok-extend_from_slice.ensures.items

pub returns-clause-count : goal.returns-clause-count
returns-clause-count g c = front_short _ _ _ _ _ _ _ _ _ c.lines.invariant
