use Rattle.std.proofs.Common.{ap, ◌∙◌}
use Rattle.adj_rib_out.specs.State.{State, route_at}
use Rattle.adj_rib_out.proofs.rib.Rib.get.Goals as goal

pub returns : goal.returns
returns c = c.get.ensures ∙ ap (λ (s : State). route_at s c.args.key.now) c.self.view_is
