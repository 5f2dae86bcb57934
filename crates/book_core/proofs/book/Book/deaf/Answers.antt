use Rattle.std.proofs.Common.{◌<◌, refl, sym, subst, eq-eqb}
use Rattle.book_history.specs.Entries.Entry.{HelperDeaf}
use Rattle.book_core.specs.Seen.{fields}
use Rattle.book_core.specs.Stands.{Stands}
use Rattle.book_core.proofs.HelperLemmas.{helper_did, whole_helper}
use Rattle.book_core.proofs.book.Book.deaf.Goals as goal

pub invariant_of-self : goal.invariant_of-self
invariant_of-self c = whole_helper (fields c.self.inside) c.args.h c.deaf.new.self c.self.invariant

pub returns : goal.returns
returns c = λ cfg H is.
    let here : Stands cfg H (fields c.self.inside) = subst (Stands cfg H) (sym c.self.view_is) is in
    (helper_did cfg H (HelperDeaf c.args.h c.args.inc) (fields c.self.inside) c.args.h
    c.index_mut-helper.result.now c.deaf.new.self (eq-eqb c.args.h c.args.h refl) refl refl refl
    (subst (λ k. c.args.h < k) (sym c.self.invariant.helpers) c.requires) c.index_mut-helper.ensures.value
    (λ stands. (tt, c.deaf.ensures cfg H c.args.h stands)) here).1
