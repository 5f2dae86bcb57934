use Rattle.std.proofs.Common.{◌<◌, sym, subst}
use Rattle.std.specs.Option.{option_copied}
use Rattle.book_core.specs.Announcing.{AllServe}
use Rattle.book_core.specs.Choosing.{AreChosen}
use Rattle.book_core.specs.Seen.{fields, Seen}
use Rattle.book_core.specs.Stands.{Stands}
use Rattle.book_core.proofs.AnswerLemmas.{all_serve}
use Rattle.book_core.proofs.CarryLemmas.{selected_all}
use Rattle.book_core.proofs.TimeLemmas.{helper_found}
use Rattle.book_core.proofs.book.Book.chosen.Goals as goal

pub returns-clause-selects : goal.returns-clause-selects
returns-clause-selects c = λ cfg H is.
    let here : Stands cfg H (fields c.self.inside) = subst (Stands cfg H) (sym c.self.view_is) is in
    let found = helper_found (fields c.self.inside) c.args.h c.index-helper.result.now
    (subst (λ k. c.args.h < k) (sym c.self.invariant.helpers) c.requires) c.index-helper.ensures in
    selected_all cfg H c.args.h c.args.command.now (option_copied c.process.result) c.self.inside.peers.items
    c.choose.result (c.process.ensures cfg H c.args.h (here.helpers c.args.h c.index-helper.result.now found))
    c.self.invariant.peers here.peers
    (subst (λ ps. AreChosen (option_copied c.process.result) c.args.command.now ps c.choose.result)
    c.deref.ensures.value c.choose.ensures)

pub returns-clause-serve : goal.returns-clause-serve
returns-clause-serve c =
    subst (λ (book : Seen). AllServe c.args.command.now c.choose.result book.peers) c.self.view_is
    (all_serve (option_copied c.process.result) c.args.command.now c.self.inside.peers.items c.choose.result
    (subst (λ ps. AreChosen (option_copied c.process.result) c.args.command.now ps c.choose.result)
    c.deref.ensures.value c.choose.ensures))
