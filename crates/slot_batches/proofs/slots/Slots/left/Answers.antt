use Rattle.std.proofs.Common.{◌-◌, sym, ap, ◌∙◌, length}
use Rattle.slot_batches.specs.Left.{value_left}
use Rattle.slot_batches.specs.Slots.{Slots}
use Rattle.slot_batches.proofs.FreezeLemmas.{of_side}
use Rattle.slot_batches.proofs.LeftLemmas.{value_left-items_of}
use Rattle.slot_batches.proofs.slots.Slots.left.Goals as goal

pub returns : goal.returns
returns c = c.frozen_group.ensures
    ∙ sym (value_left-items_of (1 - c.self.inside.side) c.args.slot c.self.inside.pending.frozen
    (of_side (1 - c.self.inside.side) (length c.self.inside.nows.items) c.self.inside.pending.frozen
    c.self.invariant.0.frozen_in))
    ∙ ap (λ (slots : Slots). value_left slots.left c.args.slot) c.self.view_is
