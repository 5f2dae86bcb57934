use Rattle.std.proofs.Common.{sym, ap, ◌∙◌}
use Rattle.value_pool.specs.Slots.{slot_at}
use Rattle.value_pool.proofs.TakeLemmas.{matched_after, items_after, nothing_taken, never_missing}
use Rattle.value_pool.proofs.slots.take_value.Goals as goal

pub returns-in_err-slot-clause-items : goal.returns-in_err-slot-clause-items
returns-in_err-slot-clause-items g c =
    nothing_taken c.args.table.now.entries c.args.slots.now.items c.args.number (sym (c.in_err-slot.ensures
    ∙ ap (λ slots. slot_at slots c.args.number) c.deref.ensures.value))

pub returns-in_err-value-clause-items : goal.returns-in_err-value-clause-items
returns-in_err-value-clause-items g c = absurd (never_missing c.args.table.now.entries c.args.slots.now.items
    c.args.number
    c.in_ok-slot.slot c.requires.matched (sym (c.in_ok-slot.ensures
    ∙ ap (λ slots. slot_at slots c.args.number) c.deref.ensures.value)) (sym c.in_err-value.ensures.entry))

pub returns-clause-matched : goal.returns-clause-matched
returns-clause-matched g c = matched_after c.args.table.now.entries c.args.slots.now.items c.args.number
    c.in_ok-slot.slot
    (c.in_ok-value.value, c.in_ok-value.field-0-1) c.requires.matched (sym (c.in_ok-slot.ensures
    ∙ ap (λ slots. slot_at slots c.args.number) c.deref.ensures.value))
    (sym c.in_ok-value.ensures.entry) c.swap_remove_index.new.self.entries c.settle.new.slots.items
    c.in_ok-value.ensures.entries c.settle.ensures

pub returns-clause-items : goal.returns-clause-items
returns-clause-items g c = items_after c.args.table.now.entries c.args.slots.now.items c.args.number c.in_ok-slot.slot
    (c.in_ok-value.value, c.in_ok-value.field-0-1) c.requires.matched (sym (c.in_ok-slot.ensures
    ∙ ap (λ slots. slot_at slots c.args.number) c.deref.ensures.value))
    (sym c.in_ok-value.ensures.entry) c.swap_remove_index.new.self.entries c.settle.new.slots.items
    c.in_ok-value.ensures.entries c.settle.ensures
