use Rattle.std.proofs.Common.{List, subst}
use Rattle.std.specs.List.{IsDistinct}
use Rattle.route_values.specs.declared.key.Key.{Key}
use Rattle.route_values.specs.Key.{same_key}
use Rattle.script_play.proofs.StandingLemmas.{keys_differ}
use Rattle.script_play.proofs.standing.Standing.len.Goals as goal

pub returns-clause-apart : goal.returns-clause-apart
returns-clause-apart c =
    subst (λ (keys : List Key). IsDistinct same_key keys) c.self.view_is
    (keys_differ c.self.inside.keys.keys c.len.ensures.unique)
