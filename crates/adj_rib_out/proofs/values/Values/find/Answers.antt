use Rattle.std.proofs.Common.{◌≡◌, ◌≢◌, ℕ, Some, subst}
use Rattle.std.specs.Prelude.{IfNone, IfSome}
use Rattle.adj_rib_out.specs.Stock.{Stock, value_under}
use Rattle.adj_rib_out.proofs.PooledLemmas.{if_found, if_none}
use Rattle.adj_rib_out.proofs.values.Values.find.Goals as goal

pub returns-clause-found : goal.returns-clause-found
returns-clause-found c = subst (λ (s : Stock). IfSome c.find.result (λ n. value_under s.seen n ≡ Some
    c.args.written.now))
    c.self.view_is (if_found c.args.written.now c.self.inside.written.items c.find.result c.find.ensures.found)

pub returns-clause-none : goal.returns-clause-none
returns-clause-none c = subst (λ (s : Stock). IfNone c.find.result ((n : ℕ)
    → value_under s.seen n ≢ Some c.args.written.now)) c.self.view_is
    (if_none c.args.written.now c.self.inside.written.items c.find.result c.find.ensures.none)
