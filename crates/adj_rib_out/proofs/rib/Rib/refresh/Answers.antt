use Rattle.std.proofs.Common.{sym, ap, subst, ◌∙◌}
use Rattle.adj_rib_out.specs.State.{State}
use Rattle.adj_rib_out.specs.Calls.{Refreshes}
use Rattle.adj_rib_out.specs.Nodes.{nodes}
use Rattle.adj_rib_out.proofs.rib.Rib.refresh.Goals as goal

pub invariant_of-self : goal.invariant_of-self
invariant_of-self c = c.self.invariant ∙ sym c.refresh.ensures.nodes

pub returns-clause-refreshes : goal.returns-clause-refreshes
returns-clause-refreshes c = subst (λ (s : State). Refreshes s c.refresh.new.self c.args.family) c.self.view_is
    c.refresh.ensures.refreshes

pub returns-clause-nodes : goal.returns-clause-nodes
returns-clause-nodes c = c.refresh.ensures.nodes ∙ ap nodes c.self.view_is
