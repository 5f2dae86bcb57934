use Rattle.std.proofs.Common.{◌<◌, ◌∙◌, length, refl, sym, subst}
use Rattle.std.specs.Prelude.{slice_set}
use Rattle.book_history.specs.declared.outcomes.Verdict.TheVariants as verdict
use Rattle.book_history.specs.declared.outcomes.Why.TheVariants as why
use Rattle.book_core.specs.Announcing.{announces, AllServe, AllTake}
use Rattle.book_core.specs.Keeping.{Keeps}
use Rattle.book_core.specs.Lines.{Does, HasRoom, IsSaid}
use Rattle.book_core.specs.Moves.{MovesAll}
use Rattle.book_core.specs.Seen.{fields, Seen}
use Rattle.book_core.specs.Stands.{Stands}
use Rattle.book_core.proofs.AnswerLemmas.{Accepts, Counts, all_take, counts_of, is_made, no_memory, on_err, on_ok}
use Rattle.book_core.proofs.AnswerLemmas.{then_no_memory, too_many}
use Rattle.book_core.proofs.CarryLemmas.{finds_room}
use Rattle.book_core.proofs.TimeLemmas.{helper_found, room_of}
use Rattle.book_core.proofs.book.Book.announce.Goals as goal

pub returns-in_default-nodes_with : goal.returns-in_default-nodes_with
returns-in_default-nodes_with c =
    subst (λ answer. Does c.args.h c.args.command.now c.args.chosen.now answer c.args.self.now c.refuse.new.self)
    (sym c.refuse.ensures.error)
    (no_memory c.args.h c.args.command.now c.args.chosen.now c.args.self.now c.refuse.new.self
    c.refuse.ensures.refuses)

pub returns-then-nodes-gt-MAX_NODES : goal.returns-then-nodes-gt-MAX_NODES
returns-then-nodes-gt-MAX_NODES c =
    let refused = c.refuse-then-nodes-gt-MAX_NODES in
    let announced = c.in-Announce in
    let counts = counts_of c.args.chosen.now c.in-Some.nodes c.deref.result.now c.self.inside.peers.items
    c.as_slice-keys.result.now announced.keys c.deref.ensures.value c.as_slice-keys.ensures c.in-Some.ensures in
    subst (λ answer. Does c.args.h c.args.command.now c.args.chosen.now answer c.args.self.now refused.new.self)
    (sym refused.ensures.error)
    (subst (λ given. Does c.args.h given c.args.chosen.now (verdict.Error (why.Full c.in-Some.nodes)) c.args.self.now
    refused.new.self) (sym announced.is)
    (too_many c.args.h announced.pick announced.keys announced.attrs c.args.chosen.now c.in-Some.nodes c.args.self.now
    refused.new.self
    (subst (λ (book : Seen). Counts book.peers c.args.chosen.now announced.keys c.in-Some.nodes) c.self.view_is counts)
    c.if-nodes-gt-MAX_NODES.true refused.ensures.refuses))

pub announce_slots-requires-clause-take : goal.announce_slots-requires-clause-take
announce_slots-requires-clause-take c =
    let announced = c.in-Announce in
    let peers = c.self.inside.peers.items in
    subst (λ keys. AllTake peers c.args.chosen.now keys announced.attrs) (sym c.as_slice-keys.ensures)
    (all_take announced.pick announced.keys announced.attrs c.args.chosen.now peers
    (subst IsSaid announced.is c.requires.said)
    (subst (λ given. AllServe given c.args.chosen.now peers) announced.is
    (subst (λ (book : Seen). AllServe c.args.command.now c.args.chosen.now book.peers) (sym c.self.view_is)
    c.requires.serve)))

pub returns-then-is_err : goal.returns-then-is_err
returns-then-is_err c =
    let refused = c.refuse-then-is_err in
    let old = fields c.self.inside in
    let mid : Seen = record old { peers = c.announce_slots.new.peers.items } in
    let keeps : Keeps old mid = record {
      helpers = refl;
      peers = on_err c.announce_slots.result (sym c.is_err.ensures.value ∙ c.if-is_err.true)
          c.announce_slots.ensures.err;
      stopping = refl;
      reload_due = refl;
    } in
    subst (λ answer. Does c.args.h c.args.command.now c.args.chosen.now answer c.args.self.now refused.new.self)
    (sym refused.ensures.error)
    (then_no_memory c.args.h c.args.command.now c.args.chosen.now c.args.self.now mid refused.new.self
    (subst (λ book. Keeps book mid) c.self.view_is keeps) refused.ensures.refuses)

pub accept-requires : goal.accept-requires
accept-requires c =
    let was = c.index_mut-helper.result.now in
    finds_room (length was.slot.replies) was.acks c.args.command.now
    (room_of (fields c.self.inside) c.args.h was
    (subst (λ k. c.args.h < k) (sym c.self.invariant.helpers) c.requires.slot) c.index_mut-helper.ensures.value
    (subst (HasRoom c.args.h) (sym c.self.view_is) c.requires.room))

pub returns : goal.returns
returns c = λ cfg H inc line says timely selected some is.
    let announced = c.in-Announce in
    let book = fields c.self.inside in
    let was = c.index_mut-helper.result.now in
    let found = helper_found book c.args.h was
    (subst (λ k. c.args.h < k) (sym c.self.invariant.helpers) c.requires.slot) c.index_mut-helper.ensures.value in
    let after : Seen = record book {
      helpers = slice_set book.helpers c.args.h c.accept.new.self;
      peers = c.announce_slots.new.peers.items;
    } in
    let counts = counts_of c.args.chosen.now c.in-Some.nodes c.deref.result.now book.peers c.as_slice-keys.result.now
    announced.keys c.deref.ensures.value c.as_slice-keys.ensures c.in-Some.ensures in
    let moved = on_ok c.announce_slots.result (sym c.is_err.ensures.value ∙ c.if-is_err.false)
    c.announce_slots.ensures.ok in
    subst (λ given. Accepts was c.accept.new.self given
    → Does c.args.h given c.args.chosen.now verdict.Done book after) (sym announced.is)
    (is_made c.args.h announced.pick announced.keys announced.attrs c.args.chosen.now c.in-Some.nodes book
    c.accept.new.self was c.announce_slots.new.peers.items counts c.if-nodes-gt-MAX_NODES.false found
    c.self.invariant.peers
    (subst (λ keys. MovesAll (announces c.args.chosen.now keys announced.attrs) book.peers
    c.announce_slots.new.peers.items) c.as_slice-keys.ensures moved)) c.accept.ensures cfg H inc line says timely
    selected some (subst (Stands cfg H) (sym c.self.view_is) is)
