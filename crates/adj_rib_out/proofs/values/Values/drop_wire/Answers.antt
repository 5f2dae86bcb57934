use Rattle.std.proofs.Common.{◌≢◌, ◌∙◌, ℕ, Some, sym, ap, subst}
use Rattle.route_values.specs.declared.attrs.Attrs.{Attrs}
use Rattle.adj_rib_out.specs.Kept.{written_under}
use Rattle.adj_rib_out.specs.Stock.{Stock, without_wire}
use Rattle.adj_rib_out.proofs.LessLemmas.{wires_less_is, wires_less_stocked}
use Rattle.adj_rib_out.proofs.values.Values.drop_wire.Goals as goal

pub invariant_of-self : goal.invariant_of-self
invariant_of-self c = wires_less_stocked c.self.inside.side c.self.inside.written c.self.inside.wires
    c.self.inside.routes.items c.self.inside.uses.items c.self.invariant c.args.wire c.take_out.new.self
    c.take_out.ensures.left (subst (λ (s : Stock). (n : ℕ) (text : Attrs)
    → written_under s.seen n ≢ Some (text, c.args.wire)) (sym c.self.view_is) c.requires.unused)

pub returns : goal.returns
returns c = wires_less_is c.self.inside.side c.self.inside.written c.self.inside.wires
    c.self.inside.routes.items c.self.inside.uses.items c.self.invariant c.args.wire c.take_out.new.self
    c.take_out.ensures.left (subst (λ (s : Stock). (n : ℕ) (text : Attrs)
    → written_under s.seen n ≢ Some (text, c.args.wire)) (sym c.self.view_is) c.requires.unused)
    ∙ ap (λ (s : Stock). without_wire s c.args.wire) c.self.view_is
