use Rattle.std.proofs.Common.{◌∷◌}
use Rattle.text_forms.specs.LineTold.{line_told}
use Rattle.book_history.specs.Entries.Entry.{LineEntered}
use Rattle.script_play.proofs.RunLemmas.{in_time, line_answered, line_late}
use Rattle.script_play.proofs.answering.answer_line.Goals as goal

pub returns-in-Ended : goal.returns-in-Ended
returns-in-Ended g c = λ cfg H stands. line_late cfg H _ _ _ (c.in-Ended.ensures cfg H stands)

pub returns-in-Done : goal.returns-in-Done
returns-in-Done g c = λ cfg H stands.
    let given = c.enter_line.result in
    let line = line_told c.args.line in
    let entered = c.enter_line.ensures cfg H stands in
    line_answered cfg H line given _ _ _ _ _ (in_time given c.in-Done.is) entered
    (c.take_all.ensures cfg (LineEntered 0 1 line entered.reading given ∷ H) entered.stands)
