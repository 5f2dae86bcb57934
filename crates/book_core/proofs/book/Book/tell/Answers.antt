use Rattle.std.proofs.Common.{◌<◌, sym, subst}
use Rattle.helper_book.specs.Seen.{Seen as Helper}
use Rattle.book_history.specs.declared.outcomes.Verdict.TheVariants as verdict
use Rattle.book_core.specs.Lines.{HasRoom}
use Rattle.book_core.specs.Seen.{Seen, fields}
use Rattle.book_core.specs.Showing.{Tells}
use Rattle.book_core.specs.Stands.{Stands}
use Rattle.book_core.proofs.ShowLemmas.{same_helper, told_busy, told_done, Knows}
use Rattle.book_core.proofs.TimeLemmas.{helper_found, room_of}
use Rattle.book_core.proofs.book.Book.tell.Goals as goal

pub returns-then-not-has_room : goal.returns-then-not-has_room
returns-then-not-has_room c =
    let book = fields c.self.inside in
    let was = c.index-helper.result.now in
    let within = subst (λ k. c.args.h < k) (sym c.self.invariant.helpers) c.requires.slot in
    let room = room_of book c.args.h was within c.index-helper.ensures
    (subst (HasRoom c.args.h) (sym c.self.view_is) c.requires.room) in
    subst (λ (b : Seen). Tells c.args.h c.args.command.now c.args.routes.now verdict.Busy b b) c.self.view_is
    (told_busy c.args.h c.args.command.now c.args.routes.now c.has_room.result book was
    (helper_found book c.args.h was within c.index-helper.ensures) room c.has_room.ensures.busy
    c.if-not-has_room.true)

pub returns : goal.returns
returns c = λ cfg H inc line says timely is decides stands.
    let book = fields c.self.inside in
    let was = c.index_mut-helper.result.now in
    let within = subst (λ k. c.args.h < k) (sym c.self.invariant.helpers) c.requires.slot in
    let first = c.index-helper.result.now in
    let same = same_helper c.self.inside.helpers.items c.args.h first was within c.index-helper.ensures
    c.index_mut-helper.ensures.value in
    told_done c.args.h c.args.command.now c.args.routes.now c.has_room.result book was c.accept.new.self
    c.requires.shows (helper_found book c.args.h was within c.index_mut-helper.ensures.value)
    (room_of book c.args.h was within c.index_mut-helper.ensures.value
    (subst (HasRoom c.args.h) (sym c.self.view_is) c.requires.room))
    (subst (λ (one : Helper). Knows one c.args.command.now c.args.routes.now c.has_room.result) same
    c.has_room.ensures.busy) c.if-not-has_room.false c.accept.ensures cfg H inc line says timely is decides
    (subst (Stands cfg H) (sym c.self.view_is) stands)
