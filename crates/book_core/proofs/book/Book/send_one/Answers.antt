use Rattle.std.proofs.Common.{◌∷◌, subst}
use Rattle.std.proofs.lemmas.Result.{err_from_is_err_and}
use Rattle.book_history.specs.Entries.Entry.{MessageCut}
use Rattle.book_core.specs.Stands.{Stands}
use Rattle.book_core.proofs.DrainLemmas.{one_failed}
use Rattle.book_core.proofs.book.Book.send_one.Goals as goal

pub returns-in_err-keep-clause-stands : goal.returns-in_err-keep-clause-stands
returns-in_err-keep-clause-stands c = λ cfg H is.
    let made = err_from_is_err_and c.from_residual.result c.from_residual.ensures.1 in
    one_failed cfg c.args.n H c.args.sent.now c.keep.new.sent c.cut-given.new.out.bytes c.from_residual.result made.0
    c.cut-given.new.self made.1 c.in_err-keep.ensures.err c.in-Message.last
    (subst (λ given. Stands cfg (MessageCut c.args.n c.cut-given.new.out.bytes given ∷ H) c.cut-given.new.self)
    c.in-Message.is (c.cut-given.ensures.stands cfg H is).1)
