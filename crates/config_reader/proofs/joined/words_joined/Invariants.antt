use Rattle.std.proofs.Common.{ℕ, ◌≡◌, List, length, Result}
use Rattle.token_reader.specs.Tokens.{Placed}
use Rattle.config_reader.specs.declared.fault.ConfigError.{ConfigError}
use Rattle.config_reader.specs.Answered.{Answers}
use Rattle.config_reader.specs.Joined.{Holds}
use Rattle.config_reader.specs.Processes.{joined, words_joined}
use Rattle.config_reader.specs.Rules.{until, is_sign}
use Rattle.config_reader.proofs.joined.words_joined.Given as goal

abbrev pub invariant-words : goal.invariant-words
invariant-words l = record {
  end : l.words.end ≡ l.fn.words.end;
  held : (run : List ℕ) × Holds l.joined run
      × ((left : List Placed) (answer : Result (List ℕ) ConfigError)
      → Answers (until (is_sign 59) joined run) l.fn.words.end l.words.left left answer
      → Answers words_joined l.fn.words.end l.fn.words.left left answer);
}

abbrev pub decreases-words : goal.decreases-words
decreases-words l = length l.words.left
