use Rattle.std.proofs.Common.{ap, ◌∙◌}
use Rattle.adj_rib_out.specs.State.{State}
use Rattle.adj_rib_out.specs.Nodes.{pair_at}
use Rattle.adj_rib_out.proofs.rib.Rib.at.Goals as goal

pub returns : goal.returns
returns c = c.at.ensures ∙ ap (λ (s : State). pair_at s c.args.place) c.self.view_is
