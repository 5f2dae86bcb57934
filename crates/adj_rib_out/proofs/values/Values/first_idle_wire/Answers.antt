use Rattle.std.proofs.Common.{subst}
use Rattle.std.specs.Prelude.{IfSome, IsSome}
use Rattle.adj_rib_out.specs.Kept.{wire_under}
use Rattle.adj_rib_out.specs.Stock.{Stock}
use Rattle.adj_rib_out.proofs.PooledLemmas.{idle_wire}
use Rattle.adj_rib_out.proofs.values.Values.first_idle_wire.Goals as goal

pub returns-clause-stands : goal.returns-clause-stands
returns-clause-stands c = subst (λ (s : Stock). IfSome c.first_idle.result (λ n. IsSome (wire_under s.seen n)))
    c.self.view_is (idle_wire c.self.inside.wires.items c.self.inside.wires.idle c.len-count.ensures.sound.held
    c.first_idle.result c.first_idle.ensures.first)
