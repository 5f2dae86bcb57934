use Rattle.std.proofs.Common.{ℕ, sym, ap, subst, ◌∙◌, List, arith}
use Rattle.value_pool.specs.Slots.{next_number, with_slot, AreFree}
use Rattle.value_pool.proofs.FreeLemmas.{taken_within, taken_slots, taken_free}
use Rattle.value_pool.proofs.slots.put_slot.Goals as goal

pub index_mut-requires : goal.index_mut-requires
index_mut-requires c = let within = taken_within c.args.slots.now.items c.pop.new.self.items c.in-Some.number
    c.args.slot
    (subst (AreFree c.args.slots.now.items) c.in-Some.ensures.items c.requires.free) in omega (arith, within)

pub returns-in-Some-clause-slots : goal.returns-in-Some-clause-slots
returns-in-Some-clause-slots c = taken_slots c.args.slots.now.items c.pop.new.self.items c.in-Some.number c.args.slot
    (subst (AreFree c.args.slots.now.items) c.in-Some.ensures.items c.requires.free)
    ∙ ap (λ (free : List ℕ). with_slot c.args.slots.now.items (next_number c.args.slots.now.items free) c.args.slot)
    (sym c.in-Some.ensures.items)

pub returns-in-Some-clause-free : goal.returns-in-Some-clause-free
returns-in-Some-clause-free c = taken_free c.args.slots.now.items c.pop.new.self.items c.in-Some.number c.args.slot
    (subst (AreFree c.args.slots.now.items) c.in-Some.ensures.items c.requires.free)
