use Rattle.std.proofs.Common.{ap, ◌∙◌}
use Rattle.adj_rib_out.specs.State.{State}
use Rattle.adj_rib_out.specs.Nodes.{is_node}
use Rattle.adj_rib_out.proofs.rib.Rib.is_node.Goals as goal

pub returns : goal.returns
returns c = c.is_node.ensures ∙ ap (λ (s : State). is_node s c.args.key.now) c.self.view_is
