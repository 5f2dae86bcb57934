use Rattle.std.proofs.Common.{subst}
use Rattle.value_pool.specs.Pool.{Pool, IsSound}
use Rattle.value_pool.proofs.ItemLemmas.{sound}
use Rattle.value_pool.proofs.pool.Pool.len.Goals as goal

pub returns-clause-sound : goal.returns-clause-sound
returns-clause-sound g c =
    subst (λ (pool : Pool g.row.T.Denot). IsSound g.T.PartialEq.eq pool) c.self.view_is
    (sound c.self.inside.table.entries c.self.inside.slots.items c.self.invariant.matched g.T.PartialEq.eq
    g.met.T.Eq.laws c.len-count.ensures.unique c.self.inside.idle.items c.self.invariant.held)
