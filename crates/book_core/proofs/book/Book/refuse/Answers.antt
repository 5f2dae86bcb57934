use Rattle.std.proofs.Common.{◌<◌, sym, subst}
use Rattle.book_core.specs.Lines.{HasRoom}
use Rattle.book_core.specs.Seen.{fields}
use Rattle.book_core.specs.Stands.{Stands}
use Rattle.book_core.proofs.HelperLemmas.{whole_helper}
use Rattle.book_core.proofs.TimeLemmas.{refused, room_of}
use Rattle.book_core.proofs.book.Book.refuse.Goals as goal

pub refuse-requires : goal.refuse-requires
refuse-requires c =
    room_of (fields c.self.inside) c.args.h c.index_mut-helper.result.now
    (subst (λ k. c.args.h < k) (sym c.self.invariant.helpers) c.requires.slot) c.index_mut-helper.ensures.value
    (subst (HasRoom c.args.h) (sym c.self.view_is) c.requires.room)

pub invariant_of-self : goal.invariant_of-self
invariant_of-self c = whole_helper (fields c.self.inside) c.args.h c.refuse.new.self c.self.invariant

pub returns-clause-refuses : goal.returns-clause-refuses
returns-clause-refuses c = λ cfg H inc line reading says timely verdict_is is.
    refused c.args.h c.args.why (fields c.self.inside) c.index_mut-helper.result.now c.refuse.new.self
    (subst (λ k. c.args.h < k) (sym c.self.invariant.helpers) c.requires.slot) c.index_mut-helper.ensures.value
    c.refuse.ensures cfg H inc line reading says timely verdict_is (subst (Stands cfg H) (sym c.self.view_is) is)
