use Rattle.std.proofs.Common.{sym, subst}
use Rattle.std.specs.Prelude.{IsSome}
use Rattle.adj_rib_out.specs.Kept.{written_under}
use Rattle.adj_rib_out.specs.Stock.{Stock}
use Rattle.adj_rib_out.proofs.StockLemmas.{held_as}
use Rattle.adj_rib_out.proofs.values.Values.hold.Goals as goal

pub invariant_of-self : goal.invariant_of-self
invariant_of-self c = held_as c.self.inside.side c.self.inside.written c.self.inside.wires c.self.inside.routes.items
    c.self.inside.uses.items c.self.invariant c.args.value c.forget.new.self c.count_up.new.counts.items
    (subst (λ (s : Stock). IsSome (written_under s.seen c.args.value)) (sym c.self.view_is) c.requires.stands)
    c.forget.ensures c.count_up.ensures
