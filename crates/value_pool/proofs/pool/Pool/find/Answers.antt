use Rattle.std.proofs.Common.{◌≡◌, ℕ, subst, ◌∙◌, IfSome, IfNone, Some, true, false}
use Rattle.value_pool.specs.Pool.{Pool, item_at, passes}
use Rattle.value_pool.proofs.ItemLemmas.{found, none_passes, only}
use Rattle.value_pool.proofs.pool.Pool.find.Goals as goal

pub returns-clause-found : goal.returns-clause-found
returns-clause-found g c =
    subst (λ (pool : Pool g.row.T.Denot).
    IfSome c.copied.result (λ number. passes (g.Q.Equivalent.equivalent c.args.value)
    (item_at pool.items number) ≡ true))
    c.self.view_is
    (found c.self.inside.table.entries c.self.inside.slots.items c.self.invariant.matched
    (g.Q.Equivalent.equivalent c.args.value) c.copied.result (c.copied.ensures ∙ c.get.ensures.value))

pub returns-clause-only : goal.returns-clause-only
returns-clause-only g c =
    subst (λ (pool : Pool g.row.T.Denot).
    (number : ℕ) → passes (g.Q.Equivalent.equivalent c.args.value) (item_at pool.items number) ≡ true
    → c.copied.result ≡ Some number)
    c.self.view_is
    (only c.self.inside.table.entries c.self.inside.slots.items c.self.invariant.matched g.T.PartialEq.eq
    g.met.T.Eq.laws c.len-count.ensures.unique (g.Q.Equivalent.equivalent c.args.value)
    (g.met.Q.Equivalent.respects_eq c.args.value) c.copied.result (c.copied.ensures ∙ c.get.ensures.value))

pub returns-clause-none : goal.returns-clause-none
returns-clause-none g c =
    subst (λ (pool : Pool g.row.T.Denot).
    IfNone c.copied.result ((number : ℕ) → passes (g.Q.Equivalent.equivalent c.args.value)
    (item_at pool.items number) ≡ false))
    c.self.view_is
    (none_passes c.self.inside.table.entries c.self.inside.slots.items c.self.invariant.matched
    (g.Q.Equivalent.equivalent c.args.value) c.copied.result
    (only c.self.inside.table.entries c.self.inside.slots.items c.self.invariant.matched g.T.PartialEq.eq
    g.met.T.Eq.laws c.len-count.ensures.unique (g.Q.Equivalent.equivalent c.args.value)
    (g.met.Q.Equivalent.respects_eq c.args.value) c.copied.result (c.copied.ensures ∙ c.get.ensures.value)))
