use Rattle.std.proofs.Common.{ap, ◌∙◌}
use Rattle.std.specs.Option.{option_map}
use Rattle.adj_rib_out.specs.State.{State, Session}
use Rattle.adj_rib_out.proofs.rib.Rib.caps.Goals as goal

pub returns : goal.returns
returns c = c.caps.ensures ∙ ap (λ (s : State). option_map (λ (x : Session). x.caps) s.session) c.self.view_is
