use Rattle.std.proofs.Common.{ap, ◌∙◌}
use Rattle.book_core.specs.Ending.{directed_by}
use Rattle.book_core.specs.Seen.{Seen}
use Rattle.book_core.proofs.EndLemmas.{is_directed}
use Rattle.book_core.proofs.book.Book.control.Goals as goal

pub returns : goal.returns
returns c = λ cfg H is.
    is_directed cfg H c.args.self.now c.directed.result
    (c.directed.ensures ∙ ap (λ (book : Seen). directed_by book.stopping book.reload_due) c.self.view_is) is
