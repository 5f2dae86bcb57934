use Rattle.std.proofs.Common.{◌<◌, sym, subst}
use Rattle.std.specs.Prelude.{IsSome}
use Rattle.linked_pending.specs.Links.{link}
use Rattle.adj_rib_out.specs.Kept.{written_under}
use Rattle.adj_rib_out.specs.Stock.{Stock}
use Rattle.adj_rib_out.proofs.StockLemmas.{last_as, released_as}
use Rattle.adj_rib_out.proofs.values.Values.release.Goals as goal

pub invariant_of-self : goal.invariant_of-self
invariant_of-self c =
    let old = c.self.inside in
    released_as old.side old.written old.wires old.routes.items old.uses.items c.self.invariant c.args.value
    c.note.new.self c.count_down.new.counts.items
    (subst (λ (s : Stock). IsSome (written_under s.seen c.args.value)) (sym c.self.view_is) c.requires.stands)
    (subst (λ (s : Stock). 0 < link s.routes c.args.value) (sym c.self.view_is) c.requires.counted)
    (last_as old.side old.written old.wires old.routes.items old.uses.items c.self.invariant c.args.value
    c.note.new.self (sym c.if-count_down.ensures.last) c.note.ensures) c.count_down.ensures.counts
