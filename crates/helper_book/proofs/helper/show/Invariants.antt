use Rattle.std.proofs.Common.{◌≡◌, ◌++◌, map, take}
use Rattle.ack_queue.specs.declared.reply.Reply.TheVariants as reply
use Rattle.helper_core.specs.Lending.{with_replies}
use Rattle.helper_book.proofs.helper.show.Given as goal

abbrev pub invariant-routes : goal.invariant-routes
invariant-routes l = l.slot ≡ with_replies l.initial.slot
    (l.initial.slot.replies ++ map (λ s. reply.Route s) (take l.route-index l.routes))
