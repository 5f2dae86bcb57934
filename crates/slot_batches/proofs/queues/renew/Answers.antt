use Rattle.std.proofs.Common.{◌+◌, ◌≤◌, ◌%◌, ◌&&◌, ◌||◌, nat_lt, eqb, length, ◌∙◌, arith}
use Rattle.std.proofs.lemmas.Grind.{common_steps}
use Rattle.linked_pending.specs.Links.{link}
use Rattle.slot_batches.proofs.WaitLemmas.{all_wait_same, one_more, all_below}
use Rattle.slot_batches.proofs.queues.renew.Goals as goal

pub slots-preserved : goal.slots-preserved
slots-preserved c = (
  c.renew_slot.ensures.kept,
  λ again were.
      all_wait_same c.args.nows.now c.args.sents.now c.renew_slot.new.pending c.args.side
      (λ s. (eqb s c.slots.slot && eqb (link c.args.nows.now s % 2) c.args.parity)
      || ((nat_lt s c.slots.slot && eqb (link c.args.nows.now s % 2) c.args.parity) || again s))
      (λ s. (nat_lt s (c.slots.slot + 1) && eqb (link c.args.nows.now s % 2) c.args.parity) || again s)
      (c.renew_slot.ensures.waits
      (λ s. (nat_lt s c.slots.slot && eqb (link c.args.nows.now s % 2) c.args.parity) || again s)
      (c.slots.invariant.1 again were))
      (λ s within. one_more s c.slots.slot (eqb (link c.args.nows.now s % 2) c.args.parity) (again s)),
  c.renew_slot.ensures.frozen ∙ c.slots.invariant.2,
  c.renew_slot.ensures.room ∙ c.slots.invariant.3,
)

pub returns-clause-waits : goal.returns-clause-waits
returns-clause-waits c = λ again were.
    let through : length c.args.nows.now ≤ c.slots.slot = grind (arith, common_steps) in
    all_wait_same c.args.nows.now c.args.sents.now c.slots.pending c.args.side
    (λ s. (nat_lt s c.slots.slot && eqb (link c.args.nows.now s % 2) c.args.parity) || again s)
    (λ s. eqb (link c.args.nows.now s % 2) c.args.parity || again s) (c.slots.invariant.1 again were)
    (λ s within. all_below s c.slots.slot (eqb (link c.args.nows.now s % 2) c.args.parity) (again s) (omega arith))
