use Rattle.std.proofs.Common.{ap, subst, vec_capacity, None, Some}
use Rattle.value_pool.specs.Pool.{Pool, TakesOut}
use Rattle.value_pool.specs.Slots.{items_of}
use Rattle.value_pool.proofs.PoolLemmas.{unchanged, freed, was_some, takes_out, not_noted}
use Rattle.value_pool.proofs.pool.Pool.take_out.Goals as goal

pub invariant_of-self : goal.invariant_of-self
invariant_of-self g c =
    unchanged c.self.inside.table.entries c.take_value.new.table.entries c.self.inside.slots.items
    c.take_value.new.slots.items c.self.inside.free.items (vec_capacity c.self.inside.free) c.self.inside.idle
    c.self.invariant c.args.number c.take_value.ensures.matched c.take_value.ensures.items c.in_err-value.ensures.count
    (was_some c.self.inside.table.entries c.take_value.new.table.entries c.self.inside.slots.items
    c.take_value.new.slots.items c.self.inside.free.items (vec_capacity c.self.inside.free) c.self.inside.idle
    c.self.invariant c.args.number c.take_value.ensures.matched c.take_value.ensures.items None
    c.in_err-value.ensures.value)

pub returns-in_err-value-clause-left : goal.returns-in_err-value-clause-left
returns-in_err-value-clause-left g c =
    subst (λ (old : Pool g.row.T.Denot). TakesOut old (record {
      items = items_of c.take_value.new.table.entries c.take_value.new.slots.items;
      idle = c.self.inside.idle.items;
    }) c.args.number) c.self.view_is
    (takes_out c.self.inside.table.entries c.take_value.new.table.entries c.self.inside.slots.items
    c.take_value.new.slots.items c.self.inside.free.items (vec_capacity c.self.inside.free) c.self.inside.idle
    c.self.invariant c.args.number c.take_value.ensures.matched c.take_value.ensures.items c.self.inside.idle.items
    (not_noted c.self.inside.table.entries c.take_value.new.table.entries c.self.inside.slots.items
    c.take_value.new.slots.items c.self.inside.free.items (vec_capacity c.self.inside.free) c.self.inside.idle
    c.self.invariant c.args.number c.take_value.ensures.matched c.take_value.ensures.items
    (was_some c.self.inside.table.entries c.take_value.new.table.entries c.self.inside.slots.items
    c.take_value.new.slots.items c.self.inside.free.items (vec_capacity c.self.inside.free) c.self.inside.idle
    c.self.invariant c.args.number c.take_value.ensures.matched c.take_value.ensures.items None
    c.in_err-value.ensures.value)))

pub invariant_of-self-2 : goal.invariant_of-self-2
invariant_of-self-2 g c =
    freed c.self.inside.table.entries c.take_value.new.table.entries c.self.inside.slots.items
    c.take_value.new.slots.items c.self.inside.free.items (vec_capacity c.self.inside.free) c.self.inside.idle
    c.self.invariant c.args.number c.take_value.ensures.matched c.take_value.ensures.items
    c.push_reserved.new.self.items (vec_capacity c.push_reserved.new.self) c.remove.new.self
    c.in_ok-value.ensures.count
    (was_some c.self.inside.table.entries c.take_value.new.table.entries c.self.inside.slots.items
    c.take_value.new.slots.items c.self.inside.free.items (vec_capacity c.self.inside.free) c.self.inside.idle
    c.self.invariant c.args.number c.take_value.ensures.matched c.take_value.ensures.items (Some c.in_ok-value.value)
    c.in_ok-value.ensures.value)
    c.push_reserved.ensures.items c.push_reserved.ensures.capacity
    (ap (λ order. order.room) c.remove.ensures.removed) (ap (λ order. order.items) c.remove.ensures.removed)
