use Rattle.std.proofs.Common.{◌∙◌, Some, sym, ap}
use Rattle.adj_rib_out.specs.Kept.{chosen_of, route_in}
use Rattle.adj_rib_out.specs.Stock.{Stock}
use Rattle.adj_rib_out.proofs.EntryLemmas.{entry_shown, not_missing}
use Rattle.adj_rib_out.proofs.values.Values.entry.Goals as goal

pub returns-in_err-attrs : goal.returns-in_err-attrs
returns-in_err-attrs c = absurd (not_missing c.self.inside.side c.self.inside.written.items c.self.inside.wires.items
    c.self.invariant.kept c.args.number c.in_ok-wire.wire (sym c.in_ok-wire.ensures) c.in_err-attrs.ensures)

pub returns : goal.returns
returns c = entry_shown c.self.inside.side c.self.inside.written.items c.self.inside.wires.items
    c.self.invariant.kept c.args.number c.in_ok-wire.wire (sym c.in_ok-wire.ensures) c.in_ok-value.value.now
    c.in_ok-attrs.attrs.now c.args.owner c.in_ok-value.ensures c.in_ok-attrs.ensures
    ∙ ap (λ (s : Stock). route_in s.seen (Some (chosen_of c.args.number c.args.owner))) c.self.view_is
