use Rattle.std.proofs.Common.{ap, ◌∙◌}
use Rattle.adj_rib_out.specs.State.{State}
use Rattle.adj_rib_out.specs.Nodes.{is_kept}
use Rattle.adj_rib_out.proofs.rib.Rib.is_kept.Goals as goal

pub returns : goal.returns
returns c = c.is_kept.ensures ∙ ap (λ (s : State). is_kept s c.args.key.now) c.self.view_is
