use Rattle.std.proofs.Common.{◌≡◌, List, length, Result}
use Rattle.route_values.specs.declared.key.Key.{Key}
use Rattle.token_reader.specs.Tokens.{Placed}
use Rattle.config_reader.specs.declared.fault.ConfigError.{ConfigError}
use Rattle.config_reader.specs.Answered.{Answers}
use Rattle.config_reader.specs.Rules.{until, is_sign}
use Rattle.health_core.specs.Prefixes.{prefix_more, prefixes_further}
use Rattle.health_core.proofs.prefixes.prefixes_further.Given as goal

abbrev pub invariant-prefixes : goal.invariant-prefixes
invariant-prefixes l = record {
  end : l.words.end ≡ l.fn.words.end;
  whole : (left : List Placed) (answer : Result (List Key) ConfigError)
      → Answers (until (is_sign 59) (prefix_more l.fn.hop) l.keys) l.fn.words.end l.words.left left answer
      → Answers (prefixes_further l.fn.hop l.fn.first) l.fn.words.end l.fn.words.left left answer;
}

abbrev pub decreases-prefixes : goal.decreases-prefixes
decreases-prefixes l = length l.words.left
