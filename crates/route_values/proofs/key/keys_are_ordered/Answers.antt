use Rattle.route_values.proofs.ComparedLemmas.{prefix_ordered, key_ordered}
use Rattle.route_values.proofs.key.keys_are_ordered.Goals as goal

pub returns : goal.returns
returns c = record { prefixes = prefix_ordered; keys = key_ordered }
