-- The keys that stand at a neighbour.
use Rattle.std.specs.Prelude.{◌≡◌, List, is_some}
use Rattle.std.specs.Set.{is_member}
use Rattle.route_values.specs.declared.key.Key.{Key}
use Rattle.route_values.specs.Key.{same_key}
use Rattle.update_grammar.specs.declared.effect.Effect.{Effect}
use Rattle.update_grammar.specs.Net.{net}

-- these keys are those at which effects leave something
abbrev pub AreLeftAt : List Effect → List Key → Type 0
AreLeftAt effects keys = (key : Key) → is_member same_key keys key ≡ is_some (net effects key)
