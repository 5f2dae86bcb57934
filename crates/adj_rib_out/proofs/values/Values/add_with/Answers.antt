use Rattle.std.proofs.Common.{◌≡◌, ◌≢◌, ◌∙◌, ℕ, Some, List, sym, ap, subst}
use Rattle.route_values.specs.declared.attrs.Attrs.{Attrs}
use Rattle.route_values.specs.Sent.{sent}
use Rattle.value_pool.specs.Pool.{Adds}
use Rattle.adj_rib_out.specs.Kept.{wire_under}
use Rattle.adj_rib_out.specs.Stock.{AddsWritten, Stock, stock_of, value_under, widened}
use Rattle.adj_rib_out.proofs.GrownLemmas.{value_added, value_stocked}
use Rattle.adj_rib_out.proofs.PooledLemmas.{value_absent}
use Rattle.adj_rib_out.proofs.values.Values.add_with.Goals as goal

pub add-requires : goal.add-requires
add-requires c = record {
  absent = value_absent c.in_ok-attrs.attrs c.self.inside.written.items (λ n is.
      subst (λ (s : Stock). (m : ℕ) → value_under s.seen m ≢ Some c.args.written.now) (sym c.self.view_is)
      c.requires.absent n (is ∙ ap (λ (attrs : Attrs). Some attrs) c.in_ok-attrs.ensures));
}

-- the stock as the call begins
abbrev before : (c : goal.After-forget) → Stock
before c = stock_of c.self.inside.side c.self.inside.written c.self.inside.wires c.self.inside.routes.items
    c.self.inside.uses.items

absent : (c : goal.After-forget) → (n : ℕ) → value_under (before c).seen n ≢ Some c.args.written.now
absent c = subst (λ (s : Stock). (n : ℕ) → value_under s.seen n ≢ Some c.args.written.now) (sym c.self.view_is)
    c.requires.absent

stands : (c : goal.After-forget) → wire_under (before c).seen c.args.wire
    ≡ Some (sent c.args.written.now c.self.inside.side)
stands c = subst (λ (s : Stock). wire_under s.seen c.args.wire ≡ Some (sent c.args.written.now s.seen.side))
    (sym c.self.view_is) c.requires.stands

adds : (c : goal.After-forget) → Adds c.self.inside.written c.add.new.self c.in_ok-number.number
    (record { attrs = c.args.written.now }, c.args.wire)
adds c = subst (λ (attrs : Attrs). Adds c.self.inside.written c.add.new.self c.in_ok-number.number
    (record { attrs = attrs }, c.args.wire)) c.in_ok-attrs.ensures c.in_ok-number.ensures.ok

places_are : (c : goal.After-forget) → c.widen.new.counts.items
    ≡ widened c.self.inside.routes.items c.in_ok-number.number
places_are c = c.widen.ensures ∙ ap (λ (counts : List ℕ). widened counts c.in_ok-number.number) c.reserve.ensures.items

pub invariant_of-self-2 : goal.invariant_of-self-2
invariant_of-self-2 c = value_stocked c.self.inside.side c.self.inside.written c.self.inside.wires
    c.self.inside.routes.items c.self.inside.uses.items c.self.invariant c.args.written.now c.args.wire (absent c)
    (stands c) c.add.new.self c.note.new.self c.forget.new.self c.in_ok-number.number (adds c) c.note.ensures
    c.forget.ensures c.widen.new.counts.items c.count_up.new.counts.items (places_are c) c.count_up.ensures

pub returns-clause-ok : goal.returns-clause-ok
returns-clause-ok c = subst (λ (s : Stock). AddsWritten s (stock_of c.self.inside.side c.note.new.self
    c.forget.new.self c.widen.new.counts.items c.count_up.new.counts.items) c.args.written.now c.args.wire
    c.in_ok-number.number) c.self.view_is
    (value_added c.self.inside.side c.self.inside.written c.self.inside.wires
    c.self.inside.routes.items c.self.inside.uses.items c.self.invariant c.args.written.now c.args.wire (absent c)
    (stands c) c.add.new.self c.note.new.self c.forget.new.self c.in_ok-number.number (adds c) c.note.ensures
    c.forget.ensures c.widen.new.counts.items c.count_up.new.counts.items (places_are c) c.count_up.ensures)
