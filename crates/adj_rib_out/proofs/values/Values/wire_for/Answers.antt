use Rattle.std.proofs.Common.{◌≡◌, ◌≢◌, ◌∙◌, ℕ, None, Some, List, inl, refl, ap, subst}
use Rattle.std.specs.Prelude.{slice_index_or}
use Rattle.route_values.specs.declared.attrs.WireAttrs.{WireAttrs}
use Rattle.route_values.specs.Sent.{sent}
use Rattle.adj_rib_out.specs.Stock.{StandsWire, Stock, stock_of, widened, wires_in}
use Rattle.adj_rib_out.proofs.GrownLemmas.{wire_stands, wire_stocked}
use Rattle.adj_rib_out.proofs.PooledLemmas.{wire_found, wire_missing}
use Rattle.adj_rib_out.proofs.values.Values.wire_for.Goals as goal

pub returns-in-Some-clause-ok : goal.returns-in-Some-clause-ok
returns-in-Some-clause-ok c =
    subst (λ (s : Stock). StandsWire s s (sent c.args.written.now s.seen.side) c.in-Some.number) c.self.view_is
    (record {
      stands = wire_found c.in_ok-attrs.attrs c.self.inside.wires.items c.in-Some.number c.in-Some.ensures.found
          ∙ ap (λ (attrs : WireAttrs). Some attrs) c.in_ok-attrs.ensures.value;
      change = inl refl;
    })

-- the wire attributes stand nowhere
absent : (c : goal.After-note) → (v : ℕ) → slice_index_or (wires_in c.self.inside.wires.items) v None
    ≢ Some c.in_ok-attrs.attrs
absent c = wire_missing c.in_ok-attrs.attrs c.self.inside.wires.items c.in_default.ensures.none

counts_are : (c : goal.After-note) → c.widen.new.counts.items ≡ widened c.self.inside.uses.items c.in_ok-number.number
counts_are c = c.widen.ensures ∙ ap (λ (counts : List ℕ). widened counts c.in_ok-number.number) c.reserve.ensures.items

pub invariant_of-self-2 : goal.invariant_of-self-2
invariant_of-self-2 c = wire_stocked c.self.inside.side c.self.inside.written c.self.inside.wires
    c.self.inside.routes.items c.self.inside.uses.items c.self.invariant c.in_ok-attrs.attrs (absent c)
    c.add.new.self c.note.new.self c.in_ok-number.number c.in_ok-number.ensures.ok c.note.ensures
    c.widen.new.counts.items (counts_are c)

pub returns-clause-ok : goal.returns-clause-ok
returns-clause-ok c =
    let old = c.self.inside in
    let new = stock_of old.side old.written c.note.new.self old.routes.items c.widen.new.counts.items in
    subst (λ (s : Stock). StandsWire s new (sent c.args.written.now s.seen.side) c.in_ok-number.number) c.self.view_is
    (subst (λ (attrs : WireAttrs). StandsWire (stock_of old.side old.written old.wires old.routes.items
    old.uses.items) new attrs c.in_ok-number.number) c.in_ok-attrs.ensures.value
    (wire_stands old.side old.written old.wires old.routes.items old.uses.items c.self.invariant
    c.in_ok-attrs.attrs (absent c) c.add.new.self c.note.new.self c.in_ok-number.number c.in_ok-number.ensures.ok
    c.note.ensures c.widen.new.counts.items (counts_are c)))
