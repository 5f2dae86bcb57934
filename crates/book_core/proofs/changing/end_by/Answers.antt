use Rattle.std.proofs.Common.{sym, subst}
use Rattle.std.specs.Prelude.{◌++◌, Option}
use Rattle.peer_history.specs.Steps.{Code}
use Rattle.peer_book.specs.Stands.{Stands}
use Rattle.book_core.specs.Changing.{ends}
use Rattle.book_core.proofs.changing.end_by.Goals as goal

pub returns-in-Some : goal.returns-in-Some
returns-in-Some c = λ steps stands.
    subst (λ (end : Option Code). Stands (ends end ++ steps) c.end.new.self) (sym c.in-Some.is)
    (c.end.ensures.stands steps stands)

pub returns-in-None : goal.returns-in-None
returns-in-None c = λ steps stands.
    subst (λ (end : Option Code). Stands (ends end ++ steps) c.args.slot.now) (sym c.in-None.is) stands
