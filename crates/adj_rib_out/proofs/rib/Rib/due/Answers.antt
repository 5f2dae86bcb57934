use Rattle.std.proofs.Common.{ap, ◌∙◌}
use Rattle.adj_rib_out.specs.State.{State}
use Rattle.adj_rib_out.specs.Nodes.{next_of}
use Rattle.adj_rib_out.proofs.rib.Rib.due.Goals as goal

pub returns : goal.returns
returns c = c.due.ensures.next ∙ ap (λ (s : State). next_of s.left s.markers) c.self.view_is
