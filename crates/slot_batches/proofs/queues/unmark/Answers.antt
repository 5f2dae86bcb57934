use Rattle.std.proofs.Common.{ap, ◌∙◌, arith}
use Rattle.linked_pending.specs.Group.{group_of, without_node}
use Rattle.linked_pending.specs.Pending.{Queues}
use Rattle.slot_batches.proofs.KeptLemmas.{group_of_gone}
use Rattle.slot_batches.proofs.MarkLemmas.{unmarked}
use Rattle.slot_batches.proofs.queues.unmark.Goals as goal

pub returns-clause-unmarked : goal.returns-clause-unmarked
returns-clause-unmarked c =
    let first = c.leave.ensures.not_frozen c.requires.even in
    let second = c.leave-2.ensures.not_frozen (ap (group_of 1) first ∙ c.requires.odd) in
    unmarked c.args.pending.now c.leave-2.new.self
    (ap (λ (queues : Queues). queues.room) c.leave-2.ensures.left
    ∙ ap (λ (queues : Queues). queues.room) c.leave.ensures.left)
    (second ∙ first)
    (ap (λ (queues : Queues). queues.waiting) c.leave-2.ensures.left
    ∙ ap (λ (queues : Queues). without_node 1 queues.waiting) c.leave.ensures.left)

pub returns-clause-even_gone : goal.returns-clause-even_gone
returns-clause-even_gone c = ap (λ (queues : Queues). group_of 0 queues.waiting) c.leave-2.ensures.left
    ∙ group_of_gone 0 1 c.leave.new.self.waiting (λ same. absurd (omega arith)) ∙ c.leave.ensures.gone_waiting
