use Rattle.std.proofs.Common.{sym, ap, subst, ◌∙◌}
use Rattle.adj_rib_out.specs.State.{State}
use Rattle.adj_rib_out.specs.Calls.{Trims}
use Rattle.adj_rib_out.specs.Nodes.{nodes}
use Rattle.adj_rib_out.proofs.rib.Rib.trim.Goals as goal

pub invariant_of-self : goal.invariant_of-self
invariant_of-self c = c.self.invariant ∙ sym c.trim.ensures.nodes

pub returns-clause-trimmed : goal.returns-clause-trimmed
returns-clause-trimmed c = subst (λ (s : State). Trims s c.trim.new.self) c.self.view_is c.trim.ensures.trimmed

pub returns-clause-nodes : goal.returns-clause-nodes
returns-clause-nodes c = c.trim.ensures.nodes ∙ ap nodes c.self.view_is
