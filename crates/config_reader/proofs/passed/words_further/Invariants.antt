use Rattle.std.proofs.Common.{◌≡◌, List, length, Result}
use Rattle.token_reader.specs.Tokens.{Placed}
use Rattle.config_reader.specs.declared.fault.ConfigError.{ConfigError}
use Rattle.config_reader.specs.Answered.{Answers}
use Rattle.config_reader.specs.Rules.{until, is_sign}
use Rattle.config_reader.specs.Neighbors.{word_passed, words_further}
use Rattle.config_reader.proofs.passed.words_further.Given as goal

abbrev pub invariant-words : goal.invariant-words
invariant-words l = record {
  end : l.words.end ≡ l.fn.words.end;
  whole : (left : List Placed) (answer : Result (Unit {0}) ConfigError)
      → Answers (until (is_sign 59) word_passed (tt {0})) l.fn.words.end l.words.left left answer
      → Answers words_further l.fn.words.end l.fn.words.left left answer;
}

abbrev pub decreases-words : goal.decreases-words
decreases-words l = length l.words.left
