use Rattle.std.proofs.Common.{◌<◌, ◌∙◌, sym, subst}
use Rattle.book_core.specs.Seen.{fields}
use Rattle.book_core.specs.Stands.{Stands}
use Rattle.book_core.proofs.TimeLemmas.{late_told}
use Rattle.book_core.proofs.book.Book.is_late.Goals as goal

pub returns : goal.returns
returns c = λ cfg H is.
    c.is_over.ensures
    ∙ late_told cfg H c.args.h c.args.inc (fields c.self.inside) c.index-helper.result.now c.runs.result
    (subst (λ k. c.args.h < k) (sym c.self.invariant.helpers) c.requires) c.index-helper.ensures
    (c.runs.ensures cfg H c.args.h) (subst (Stands cfg H) (sym c.self.view_is) is)
