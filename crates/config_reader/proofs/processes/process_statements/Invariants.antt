use Rattle.std.proofs.Common.{◌≡◌, List, length, Result}
use Rattle.token_reader.specs.Tokens.{Placed}
use Rattle.config_reader.specs.declared.fault.ConfigError.{ConfigError}
use Rattle.config_reader.specs.declared.written.ProcessWritten.{ProcessWritten}
use Rattle.config_reader.specs.Answered.{Answers}
use Rattle.config_reader.specs.Rules.{until, is_sign}
use Rattle.config_reader.specs.Processes.{process_statement, process_statements}
use Rattle.config_reader.proofs.processes.process_statements.Given as goal

abbrev pub invariant-statements : goal.invariant-statements
invariant-statements l = record {
  end : l.words.end ≡ l.fn.words.end;
  whole : (left : List Placed) (answer : Result ProcessWritten ConfigError)
      → Answers (until (is_sign 125) process_statement l.written) l.fn.words.end l.words.left left answer
      → Answers process_statements l.fn.words.end l.fn.words.left left answer;
}

abbrev pub decreases-statements : goal.decreases-statements
decreases-statements l = length l.words.left
