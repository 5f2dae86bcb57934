use Rattle.std.proofs.Common.{◌≡◌, List, length, Result}
use Rattle.token_reader.specs.Tokens.{Placed}
use Rattle.config_reader.specs.declared.fault.ConfigError.{ConfigError}
use Rattle.config_reader.specs.declared.written.NeighborWritten.{NeighborWritten}
use Rattle.config_reader.specs.Answered.{Answers}
use Rattle.config_reader.specs.Rules.{until, is_sign}
use Rattle.config_reader.specs.Neighbors.{neighbor_statement, neighbor_statements}
use Rattle.config_reader.proofs.neighbors.neighbor_statements.Given as goal

abbrev pub invariant-statements : goal.invariant-statements
invariant-statements l = record {
  end : l.words.end ≡ l.fn.words.end;
  whole : (left : List Placed) (answer : Result NeighborWritten ConfigError)
      → Answers (until (is_sign 125) (neighbor_statement l.fn.peer) l.written) l.fn.words.end l.words.left left answer
      → Answers (neighbor_statements l.fn.peer) l.fn.words.end l.fn.words.left left answer;
}

abbrev pub decreases-statements : goal.decreases-statements
decreases-statements l = length l.words.left
