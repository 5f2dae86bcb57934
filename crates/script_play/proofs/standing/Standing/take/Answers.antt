use Rattle.std.proofs.Common.{false, List, ap, ◌∙◌}
use Rattle.std.specs.Prelude.{if◌then◌else◌}
use Rattle.std.specs.Set.{is_member}
use Rattle.route_values.specs.declared.key.Key.{Key}
use Rattle.route_values.specs.Key.{same_key}
use Rattle.script_play.proofs.StandingLemmas.{key_set}
use Rattle.script_play.proofs.standing.Standing.take.Goals as goal

pub returns : goal.returns
returns c = λ other.
    key_set c.self.inside.keys.keys c.swap_remove.new.self.keys c.args.key.now false
    c.swap_remove.ensures.updates.0 other
    ∙ ap (λ (keys : List Key). if same_key c.args.key.now other then false else is_member same_key keys other)
    c.self.view_is
