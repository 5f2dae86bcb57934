use Rattle.std.proofs.Common.{true, List, ap, ◌∙◌}
use Rattle.std.specs.Prelude.{if◌then◌else◌}
use Rattle.std.specs.Set.{is_member}
use Rattle.route_values.specs.declared.key.Key.{Key}
use Rattle.route_values.specs.Key.{same_key}
use Rattle.script_play.proofs.StandingLemmas.{key_set}
use Rattle.script_play.proofs.standing.Standing.put.Goals as goal

pub returns : goal.returns
returns c = λ other.
    key_set c.self.inside.keys.keys c.insert.new.self.keys c.args.key true c.in_ok-insert.ensures.updates.0 other
    ∙ ap (λ (keys : List Key). if same_key c.args.key other then true else is_member same_key keys other)
    c.self.view_is
