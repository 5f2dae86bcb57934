use Rattle.std.proofs.Common.{◌≡◌, List, length, Result}
use Rattle.token_reader.specs.Tokens.{Placed}
use Rattle.config_reader.specs.declared.fault.ConfigError.{ConfigError}
use Rattle.config_reader.specs.declared.written.Heard.{Heard}
use Rattle.config_reader.specs.Answered.{Answers}
use Rattle.config_reader.specs.Heard.{further_heard, names_further}
use Rattle.config_reader.specs.Rules.{until, is_sign}
use Rattle.config_reader.proofs.heard.names_further.Given as goal

abbrev pub invariant-names : goal.invariant-names
invariant-names l = record {
  end : l.words.end ≡ l.fn.words.end;
  whole : (left : List Placed) (answer : Result (List Heard) ConfigError)
      → Answers (until (is_sign 93) further_heard l.all) l.fn.words.end l.words.left left answer
      → Answers (names_further l.fn.first) l.fn.words.end l.fn.words.left left answer;
}

abbrev pub decreases-names : goal.decreases-names
decreases-names l = length l.words.left
