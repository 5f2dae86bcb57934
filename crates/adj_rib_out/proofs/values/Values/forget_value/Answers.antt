use Rattle.std.proofs.Common.{◌<◌, sym, subst}
use Rattle.linked_pending.specs.Links.{link}
use Rattle.adj_rib_out.specs.Stock.{Stock}
use Rattle.adj_rib_out.proofs.StockLemmas.{forgotten_as}
use Rattle.adj_rib_out.proofs.values.Values.forget_value.Goals as goal

pub invariant_of-self : goal.invariant_of-self
invariant_of-self c = forgotten_as c.self.inside.side c.self.inside.written c.self.inside.wires
    c.self.inside.routes.items c.self.inside.uses.items c.self.invariant c.args.value c.forget.new.self
    (subst (λ (s : Stock). 0 < link s.routes c.args.value) (sym c.self.view_is) c.requires) c.forget.ensures
