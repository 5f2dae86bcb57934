use Rattle.std.proofs.Common.{◌<◌, ◌∙◌, length, sym, subst}
use Rattle.std.proofs.lemmas.List.{length-set}
use Rattle.book_core.specs.Lines.{HasRoom}
use Rattle.book_core.specs.Seen.{fields}
use Rattle.book_core.specs.Stands.{Stands}
use Rattle.book_core.proofs.CarryLemmas.{did_plain, finds_room}
use Rattle.book_core.proofs.TimeLemmas.{helper_found, room_of}
use Rattle.book_core.proofs.book.Book.carry.Goals as goal

pub accept-requires : goal.accept-requires
accept-requires c =
    let was = c.index_mut-helper.result.now in
    finds_room (length was.slot.replies) was.acks c.args.command.now
    (room_of (fields c.self.inside) c.args.h was
    (subst (λ k. c.args.h < k) (sym c.self.invariant.helpers) c.requires.slot) c.index_mut-helper.ensures.value
    (subst (HasRoom c.args.h) (sym c.self.view_is) c.requires.room))

pub invariant_of-self : goal.invariant_of-self
invariant_of-self c = record {
  helpers = length-set c.self.inside.helpers.items c.args.h c.accept.new.self ∙ c.self.invariant.helpers;
  peers = c.carry_all.ensures.count ∙ c.self.invariant.peers;
}

pub returns : goal.returns
returns c = λ cfg H inc line says timely selected some is.
    let book = fields c.self.inside in
    let was = c.index_mut-helper.result.now in
    let found = helper_found book c.args.h was
    (subst (λ k. c.args.h < k) (sym c.self.invariant.helpers) c.requires.slot) c.index_mut-helper.ensures.value in
    did_plain c.nodes_stay.ensures c.args.h c.args.command.now c.args.chosen.now book c.accept.new.self was
    c.carry_all.new.peers.items c.ends-self-inside.result c.is_due-self-inside.result found c.requires.plain
    c.requires.silent c.self.invariant.peers c.carry_all.ensures c.ends-self-inside.ensures
    c.is_due-self-inside.ensures c.accept.ensures cfg H inc line says timely selected some
    (subst (Stands cfg H) (sym c.self.view_is) is)
