use Rattle.std.proofs.Common.{◌≤◌, Some, subst}
use Rattle.adj_rib_out.specs.State.{State}
use Rattle.adj_rib_out.specs.Calls.{Restarts}
use Rattle.adj_rib_out.specs.Nodes.{nodes}
use Rattle.adj_rib_out.proofs.rib.Rib.up.Goals as goal

pub returns-clause-restarts : goal.returns-clause-restarts
returns-clause-restarts c = subst (λ (s : State). Restarts s c.up.new.self (Some c.args.caps)) c.self.view_is
    c.up.ensures.restarts

pub returns-clause-nodes : goal.returns-clause-nodes
returns-clause-nodes c = subst (λ (s : State). nodes c.up.new.self ≤ nodes s) c.self.view_is c.up.ensures.nodes
