use Rattle.std.proofs.Common.{◌≤◌, None, subst}
use Rattle.adj_rib_out.specs.State.{State}
use Rattle.adj_rib_out.specs.Calls.{Restarts}
use Rattle.adj_rib_out.specs.Nodes.{nodes}
use Rattle.adj_rib_out.proofs.rib.Rib.down.Goals as goal

pub returns-clause-restarts : goal.returns-clause-restarts
returns-clause-restarts c = subst (λ (s : State). Restarts s c.down.new.self None) c.self.view_is
    c.down.ensures.restarts

pub returns-clause-nodes : goal.returns-clause-nodes
returns-clause-nodes c = subst (λ (s : State). nodes c.down.new.self ≤ nodes s) c.self.view_is c.down.ensures.nodes
