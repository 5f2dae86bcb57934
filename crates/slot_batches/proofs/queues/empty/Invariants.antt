use Rattle.slot_batches.specs.Owing.{HasEmptied}
use Rattle.slot_batches.proofs.queues.empty.Given as goal

abbrev pub invariant-slots : goal.invariant-slots
invariant-slots l = HasEmptied l.initial.nows.items l.nows.items l.initial.sents.items l.sents.items
    l.initial.pending l.pending l.slot
