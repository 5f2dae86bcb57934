use Rattle.std.proofs.Common.{ap, vec_capacity}
use Rattle.value_pool.proofs.PoolLemmas.{forgotten}
use Rattle.value_pool.proofs.pool.Pool.forget.Goals as goal

pub invariant_of-self : goal.invariant_of-self
invariant_of-self g c = forgotten c.self.inside.table.entries c.self.inside.slots.items c.self.inside.free.items
    (vec_capacity c.self.inside.free) c.self.inside.idle c.remove.new.self c.self.invariant c.args.number
    (ap (λ order. order.room) c.remove.ensures.removed) (ap (λ order. order.items) c.remove.ensures.removed)
