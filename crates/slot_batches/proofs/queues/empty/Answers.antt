use Rattle.std.proofs.Common.{◌<◌, length, arith}
use Rattle.std.proofs.lemmas.Grind.{common_steps}
use Rattle.slot_batches.proofs.EmptyLemmas.{emptied_next}
use Rattle.slot_batches.proofs.queues.empty.Goals as goal

pub slots-preserved : goal.slots-preserved
slots-preserved c =
    let slot : c.slots.slot < length c.args.nows.now.items = grind (arith, common_steps) in
    emptied_next c.args.nows.now.items c.slots.nows.items c.args.sents.now.items c.slots.sents.items
    c.args.pending.now c.slots.pending c.slots.slot c.slots.invariant slot c.empty_slot.new.nows.items
    c.empty_slot.new.sents.items c.empty_slot.new.pending c.empty_slot.ensures.nows c.empty_slot.ensures.sents
    c.empty_slot.ensures.pending
