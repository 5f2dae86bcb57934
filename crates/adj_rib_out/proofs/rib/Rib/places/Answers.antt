use Rattle.std.proofs.Common.{length, ap, subst, ◌∙◌}
use Rattle.adj_rib_out.specs.State.{State}
use Rattle.adj_rib_out.specs.Nodes.{AreApart}
use Rattle.adj_rib_out.proofs.rib.Rib.places.Goals as goal

pub returns-clause-places : goal.returns-clause-places
returns-clause-places c = c.places.ensures.places ∙ ap (λ (s : State). length s.rows) c.self.view_is

pub returns-clause-apart : goal.returns-clause-apart
returns-clause-apart c = subst (λ (s : State). AreApart s.rows) c.self.view_is c.places.ensures.apart
