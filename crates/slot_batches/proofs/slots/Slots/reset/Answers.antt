use Rattle.std.proofs.Common.{ap}
use Rattle.slot_batches.specs.Left.{items_of}
use Rattle.slot_batches.proofs.EmptyLemmas.{nothing_frozen, nothing_waits}
use Rattle.slot_batches.proofs.slots.Slots.reset.Goals as goal

pub invariant_of-self : goal.invariant_of-self
invariant_of-self c = (
  c.empty.ensures.kept c.self.inside.side c.self.invariant.0,
  nothing_waits c.self.inside.nows.items c.empty.new.nows.items c.self.inside.sents.items c.empty.new.sents.items
      c.self.inside.pending c.empty.new.pending c.self.inside.side c.empty.ensures c.self.invariant.0,
)

pub returns-clause-left : goal.returns-clause-left
returns-clause-left c = ap items_of (nothing_frozen c.self.inside.nows.items c.empty.new.nows.items
    c.self.inside.sents.items c.empty.new.sents.items c.self.inside.pending c.empty.new.pending c.self.inside.side
    c.empty.ensures c.self.invariant.0)
