use Rattle.std.proofs.Common.{sym, ap, subst, ◌∙◌}
use Rattle.adj_rib_out.specs.State.{State}
use Rattle.adj_rib_out.specs.Calls.{Freezes, is_open}
use Rattle.adj_rib_out.specs.Nodes.{nodes}
use Rattle.adj_rib_out.proofs.rib.Rib.freeze.Goals as goal

pub freeze-requires : goal.freeze-requires
freeze-requires c = ap is_open c.self.view_is ∙ c.requires

pub invariant_of-self : goal.invariant_of-self
invariant_of-self c = c.self.invariant ∙ sym c.freeze.ensures.nodes

pub returns-clause-freezes : goal.returns-clause-freezes
returns-clause-freezes c = subst (λ (s : State). Freezes s c.freeze.new.self) c.self.view_is c.freeze.ensures.freezes

pub returns-clause-nodes : goal.returns-clause-nodes
returns-clause-nodes c = c.freeze.ensures.nodes ∙ ap nodes c.self.view_is
