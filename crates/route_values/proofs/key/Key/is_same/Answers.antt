use Rattle.std.proofs.Common.{◌∙◌}
use Rattle.route_values.proofs.ComparedLemmas.{key_tested}
use Rattle.route_values.proofs.key.Key.is_same.Goals as goal

pub returns : goal.returns
returns c = c.eq.ensures ∙ key_tested c.args.self.now c.args.other.now
