use Rattle.std.proofs.Common.{ap, ◌∙◌}
use Rattle.linked_pending.specs.Group.{group_of, with_node}
use Rattle.linked_pending.specs.Pending.{Queues}
use Rattle.linked_pending.proofs.GroupLemmas.{group_of-with_node, absent_from_no_group}
use Rattle.slot_batches.proofs.MarkLemmas.{marked}
use Rattle.slot_batches.proofs.queues.mark.Goals as goal

pub join-requires-then-room-gt1-clause-not_waiting : goal.join-requires-then-room-gt1-clause-not_waiting
join-requires-then-room-gt1-clause-not_waiting c =
    ap (λ (queues : Queues). group_of 1 queues.waiting) c.join.ensures
    ∙ group_of-with_node 1 0 0 c.unmark.new.pending.waiting
    (absent_from_no_group 0 c.unmark.new.pending.waiting c.unmark.ensures.even_gone)
    ∙ c.unmark.ensures.odd_gone

pub returns-then-room-gt1 : goal.returns-then-room-gt1
returns-then-room-gt1 c = marked c.args.pending.now c.unmark.new.pending c.join-then-room-gt1.new.self
    c.unmark.ensures.unmarked c.unmark.ensures.even_gone c.unmark.ensures.odd_gone
    (ap (λ (queues : Queues). queues.room) c.join-then-room-gt1.ensures
    ∙ ap (λ (queues : Queues). queues.room) c.join.ensures)
    (ap (λ (queues : Queues). queues.frozen) c.join-then-room-gt1.ensures
    ∙ ap (λ (queues : Queues). queues.frozen) c.join.ensures)
    (ap (λ (queues : Queues). queues.waiting) c.join-then-room-gt1.ensures
    ∙ ap (λ (queues : Queues). with_node 1 1 queues.waiting) c.join.ensures)
