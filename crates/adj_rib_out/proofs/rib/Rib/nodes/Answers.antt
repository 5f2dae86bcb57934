use Rattle.std.proofs.Common.{ap, subst, ◌∙◌}
use Rattle.std.specs.Prelude.{IsTrue}
use Rattle.route_values.specs.declared.key.Key.{Key}
use Rattle.adj_rib_out.specs.State.{State, is_ready}
use Rattle.adj_rib_out.specs.Nodes.{AreApart, is_node, nodes}
use Rattle.adj_rib_out.proofs.rib.Rib.nodes.Goals as goal

pub returns-clause-nodes : goal.returns-clause-nodes
returns-clause-nodes c = c.self.invariant ∙ ap nodes c.self.view_is

pub returns-clause-apart : goal.returns-clause-apart
returns-clause-apart c = subst (λ (s : State). AreApart s.rows) c.self.view_is c.places.ensures.apart

pub returns-clause-ready : goal.returns-clause-ready
returns-clause-ready c = subst (λ (s : State). (key : Key) → IsTrue (is_node s key) → IsTrue (is_ready s key))
    c.self.view_is c.places.ensures.ready
