use Rattle.std.proofs.Common.{Ok, sym, subst}
use Rattle.book_core.specs.Lines.{Answers}
use Rattle.book_core.proofs.CarryLemmas.{done_answers, none_answers}
use Rattle.book_core.proofs.book.Book.command.Goals as goal

pub returns-then-is_for_none : goal.returns-then-is_for_none
returns-then-is_for_none c =
    subst (λ answer. Answers c.args.h (Ok c.args.command.now) answer c.args.self.now c.refuse.new.self)
    (sym c.refuse.ensures.error)
    (none_answers c.args.h c.args.command.now c.chosen-chosen.result c.is_for_none.result c.args.self.now
    c.refuse.new.self c.chosen-chosen.ensures.selects c.chosen-chosen.ensures.many c.is_for_none.ensures
    c.if-is_for_none.true c.refuse.ensures.refuses)

pub returns : goal.returns
returns c =
    done_answers c.args.h c.args.command.now c.chosen-chosen.result c.is_for_none.result c.serve.result c.args.self.now
    c.serve.new.self c.chosen-chosen.ensures.selects c.chosen-chosen.ensures.many c.is_for_none.ensures
    c.if-is_for_none.false c.serve.ensures

pub serve-requires-clause-serve : goal.serve-requires-clause-serve
serve-requires-clause-serve c = c.chosen-chosen.ensures.serve
