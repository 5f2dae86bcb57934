use Rattle.std.proofs.Common.{◌≡◌, List, length, Result}
use Rattle.token_reader.specs.Tokens.{Placed}
use Rattle.config_reader.specs.declared.fault.ConfigError.{ConfigError}
use Rattle.config_reader.specs.Answered.{Answers}
use Rattle.config_reader.specs.Rules.{until, is_end}
use Rattle.health_core.specs.declared.written.Written.{Written}
use Rattle.health_core.specs.Statements.{statement_at, statements_read}
use Rattle.health_core.proofs.statements.statements_read.Given as goal

abbrev pub invariant-statements : goal.invariant-statements
invariant-statements l = record {
  end : l.words.end ≡ l.fn.words.end;
  whole : (left : List Placed) (answer : Result Written ConfigError)
      → Answers (until is_end statement_at l.written) l.fn.words.end l.words.left left answer
      → Answers statements_read l.fn.words.end l.fn.words.left left answer;
}

abbrev pub decreases-statements : goal.decreases-statements
decreases-statements l = length l.words.left
