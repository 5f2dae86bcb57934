use Rattle.std.proofs.Common.{sym, subst}
use Rattle.book_core.specs.Seen.{fields}
use Rattle.book_core.specs.Stands.{Stands}
use Rattle.book_core.proofs.EndLemmas.{is_refused}
use Rattle.book_core.proofs.book.Book.reload_refused.Goals as goal

pub returns : goal.returns
returns c = λ cfg H is.
    is_refused cfg H c.args.why (fields c.self.inside) (subst (Stands cfg H) (sym c.self.view_is) is)
