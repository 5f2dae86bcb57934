use Rattle.std.proofs.Common.{◌≡◌, ◌+◌, ◌==◌, ◌∙◌, ℕ, cond, sym, ap, subst}
use Rattle.std.specs.Prelude.{IfSome, MatchOption, is_some}
use Rattle.linked_pending.specs.Links.{link}
use Rattle.adj_rib_out.specs.Kept.{written_under}
use Rattle.adj_rib_out.specs.Stock.{Stock, without_value}
use Rattle.adj_rib_out.proofs.LessLemmas.{counts_as, dropped_as, less_stocked}
use Rattle.adj_rib_out.proofs.PooledLemmas.{tagged}
use Rattle.adj_rib_out.proofs.values.Values.drop_value.Goals as goal

pub invariant_of-self : goal.invariant_of-self
invariant_of-self c = less_stocked c.self.inside.side c.self.inside.written c.self.inside.wires
    c.self.inside.routes.items c.self.inside.uses.items c.self.invariant c.args.value c.take_out.new.self
    c.take_out.ensures.left

pub release_wire-requires-clause-stands : goal.release_wire-requires-clause-stands
release_wire-requires-clause-stands c =
    let held = tagged c.self.inside.written.items c.args.value c.in-Some.wire (sym c.tag.ensures ∙ c.in-Some.is) in
    ap is_some (c.self.invariant.kept.wired c.args.value c.in-Some.wire held.0 held.1)

pub returns-clause-dropped : goal.returns-clause-dropped
returns-clause-dropped c =
    let held = tagged c.self.inside.written.items c.args.value c.in-Some.wire (sym c.tag.ensures ∙ c.in-Some.is) in
    let new = c.release_wire.new.self in
    subst (λ (s : Stock). MatchOption (written_under s.seen c.args.value) (new ≡ s)
    (λ held. new ≡ without_value s c.args.value held)) c.self.view_is
    (dropped_as c.self.inside.side c.self.inside.written c.self.inside.wires c.self.inside.routes.items
    c.self.inside.uses.items c.self.invariant c.args.value c.take_out.new.self c.take_out.ensures.left
    c.in-Some.wire held.0 held.1 new c.release_wire.ensures.released)

pub returns-clause-counts : goal.returns-clause-counts
returns-clause-counts c =
    let held = tagged c.self.inside.written.items c.args.value c.in-Some.wire (sym c.tag.ensures ∙ c.in-Some.is) in
    let new = c.release_wire.new.self in
    subst (λ (s : Stock). IfSome (written_under s.seen c.args.value) (λ held. (w : ℕ)
    → link new.uses w + cond (held.1 == w) 1 0 ≡ link s.uses w)) c.self.view_is
    (counts_as c.self.inside.side c.self.inside.written c.self.inside.wires c.self.inside.routes.items
    c.self.inside.uses.items c.self.invariant c.args.value c.take_out.new.self c.take_out.ensures.left
    c.in-Some.wire held.0 held.1 new c.release_wire.ensures.counts)
