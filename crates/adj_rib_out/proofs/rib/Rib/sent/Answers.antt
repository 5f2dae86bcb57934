use Rattle.std.proofs.Common.{refl, subst, ap, arith, ◌∙◌}
use Rattle.adj_rib_out.specs.State.{State}
use Rattle.adj_rib_out.specs.Calls.{Passes}
use Rattle.adj_rib_out.specs.Nodes.{nodes}
use Rattle.adj_rib_out.proofs.CountLemmas as count
use Rattle.adj_rib_out.proofs.rib.Rib.sent.Goals as goal

pub fewer-count-requires : goal.fewer-count-requires
fewer-count-requires c = count.can_shrink c.self.inside.count c.self.inside.table c.sent-gone.new.self
    c.sent-gone.result
    c.sent-gone.result c.self.invariant refl c.sent-gone.ensures.nodes

pub invariant_of-self : goal.invariant_of-self
invariant_of-self c = count.shrunk_is c.self.inside.count c.self.inside.table c.sent-gone.new.self c.sent-gone.result
    c.sent-gone.result c.self.invariant refl c.sent-gone.ensures.nodes c.fewer-count.result c.fewer-count.ensures

pub returns-clause-passes : goal.returns-clause-passes
returns-clause-passes c = subst (λ (s : State). Passes s c.sent-gone.new.self) c.self.view_is c.sent-gone.ensures.passes

pub returns-clause-nodes : goal.returns-clause-nodes
returns-clause-nodes c =
    let moved = c.sent-gone.ensures.nodes ∙ ap nodes c.self.view_is in
    omega arith
