use Rattle.std.proofs.Common.{List, sym, subst}
use Rattle.ack_queue.specs.declared.reply.Shown.{Shown}
use Rattle.book_history.specs.declared.outcomes.Why.TheVariants as why
use Rattle.book_core.specs.declared.peering.Peering.{Peering}
use Rattle.book_core.specs.Lines.{Does, Refuses}
use Rattle.book_core.specs.Seen.{Seen, fields}
use Rattle.book_core.specs.Showing.{AreCounted, AreListed, Tells}
use Rattle.book_core.proofs.ShowLemmas.{lacks_memory, shows_told, shows_too_many}
use Rattle.book_core.proofs.book.Book.show.Goals as goal

pub returns-in_default-count_all : goal.returns-in_default-count_all
returns-in_default-count_all c =
    lacks_memory c.args.h c.args.command.now c.args.chosen.now c.refuse.result c.args.self.now c.refuse.new.self
    c.refuse.ensures.error c.refuse.ensures.refuses

pub returns-then-count-gt-MAX_SHOWN : goal.returns-then-count-gt-MAX_SHOWN
returns-then-count-gt-MAX_SHOWN c =
    let book = fields c.self.inside in
    let refused = c.refuse-then-count-gt-MAX_SHOWN in
    subst (λ (b : Seen). Does c.args.h c.args.command.now c.args.chosen.now refused.result b refused.new.self)
    c.self.view_is
    (shows_too_many c.nodes_stay.ensures c.args.h c.args.command.now c.in-Show.pick c.in-Show.within
    c.args.chosen.now c.in-Some.count refused.result book refused.new.self c.in-Show.is c.self.invariant.peers
    (subst (λ (peers : List Peering). AreCounted peers c.args.chosen.now c.in-Show.within c.in-Some.count)
    c.deref.ensures.value c.in-Some.ensures) c.if-count-gt-MAX_SHOWN.true refused.ensures.error
    (subst (λ (b : Seen). Refuses c.args.h (why.Show c.in-Some.count) b refused.new.self) (sym c.self.view_is)
    refused.ensures.refuses))

pub returns-in_default-list_all : goal.returns-in_default-list_all
returns-in_default-list_all c =
    let refused = c.refuse-in_default-list_all in
    lacks_memory c.args.h c.args.command.now c.args.chosen.now refused.result c.args.self.now refused.new.self
    refused.ensures.error refused.ensures.refuses

pub returns : goal.returns
returns c =
    let book = fields c.self.inside in
    let routes = c.in-Ok.routes.items in
    subst (λ (b : Seen). Does c.args.h c.args.command.now c.args.chosen.now c.tell.result b c.tell.new.self)
    c.self.view_is
    (shows_told c.nodes_stay.ensures c.args.h c.args.command.now c.in-Show.pick c.in-Show.within c.args.chosen.now
    c.in-Some.count routes c.tell.result book c.tell.new.self c.in-Show.is c.self.invariant.peers
    (subst (λ (peers : List Peering). AreCounted peers c.args.chosen.now c.in-Show.within c.in-Some.count)
    c.deref.ensures.value c.in-Some.ensures) c.if-count-gt-MAX_SHOWN.false
    (subst (λ (peers : List Peering). AreListed peers c.args.chosen.now c.in-Show.within routes)
    c.deref-2.ensures.value c.in-Ok.ensures)
    (subst (λ (b : Seen). Tells c.args.h c.args.command.now routes c.tell.result b c.tell.new.self)
    (sym c.self.view_is)
    (subst (λ (these : List Shown). Tells c.args.h c.args.command.now these c.tell.result c.args.self.now
    c.tell.new.self) c.deref-3.ensures.value c.tell.ensures)))
