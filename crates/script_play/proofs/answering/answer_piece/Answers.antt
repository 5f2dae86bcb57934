use Rattle.std.proofs.Common.{refl}
use Rattle.std.proofs.lemmas.Result.{err_from_is_err_and}
use Rattle.script_play.proofs.AnsweredLemmas.{front_all, front_goes_on, front_none, front_stopped}
use Rattle.script_play.proofs.answering.answer_piece.Goals as goal

pub lines-init : goal.lines-init
lines-init g c = front_none _ _ _ _ c.requires.none

pub lines-preserved : goal.lines-preserved
lines-preserved g c =
    front_goes_on _ _ _ _ _ _ c.feed-count.new.self _ _ _ _ _ _ _ _ c.lines.invariant c.feed-count.ensures.count
    c.feed-count.ensures.taken c.split_at.ensures.back c.in-Some.ensures.exact c.advance.ensures
    c.in_ok-answer_line.ensures

pub returns-in_err-answer_line-clause-answers : goal.returns-in_err-answer_line-clause-answers
returns-in_err-answer_line-clause-answers g c =
    let e = err_from_is_err_and c.from_residual.result c.from_residual.ensures.1 in
    rw (e.1, e.2)
    (front_stopped _ _ _ _ _ c.feed-count.new.self c.feed-count.new.self _ _ _ c.answer_line.new.player
    c.answer_line.new.player _ _ _ _
    c.lines.invariant c.feed-count.ensures.count c.feed-count.ensures.taken c.in-Some.ensures.exact
    c.in_err-answer_line.ensures)

pub returns-in_default-clause-answers : goal.returns-in_default-clause-answers
returns-in_default-clause-answers g c =
    front_all _ _ _ _ _ _ _ _ _ _ c.lines.invariant c.feed-count.ensures.count c.feed-count.ensures.taken
    c.feed-count.ensures.whole (c.in_default.ensures.none.0 refl)
