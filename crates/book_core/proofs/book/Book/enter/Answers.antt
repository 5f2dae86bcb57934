use Rattle.std.proofs.Common.{Err, ap, sym, subst, ◌∙◌}
use Rattle.book_history.specs.declared.outcomes.Verdict.TheVariants as verdict
use Rattle.book_core.specs.Lines.{Answers, Refuses}
use Rattle.book_core.proofs.TimeLemmas.{fault_answers}
use Rattle.book_core.proofs.book.Book.enter.Goals as goal

pub returns-in-Err : goal.returns-in-Err
returns-in-Err c =
    subst (λ reading. Answers c.args.h reading c.refuse.result c.args.self.now c.refuse.new.self) (sym c.in-Err.is)
    (subst (λ answer. Answers c.args.h (Err c.in-Err.fault) answer c.args.self.now c.refuse.new.self)
    (sym (c.refuse.ensures.error ∙ ap verdict.Error c.why_of.ensures))
    (fault_answers c.args.h c.in-Err.fault c.args.self.now c.refuse.new.self
    (subst (λ why. Refuses c.args.h why c.args.self.now c.refuse.new.self) c.why_of.ensures
    c.refuse.ensures.refuses)))

pub returns-in-Ok : goal.returns-in-Ok
returns-in-Ok c =
    subst (λ reading. Answers c.args.h reading c.command.result c.args.self.now c.command.new.self) (sym c.in-Ok.is)
    c.command.ensures
