use Rattle.std.proofs.Common.{◌≡◌, List, length, Result}
use Rattle.token_reader.specs.Tokens.{Placed}
use Rattle.config_reader.specs.declared.fault.ConfigError.{ConfigError}
use Rattle.config_reader.specs.declared.written.Capabilities.{Capabilities}
use Rattle.config_reader.specs.Answered.{Answers}
use Rattle.config_reader.specs.Rules.{until, is_sign}
use Rattle.config_reader.specs.Capabilities.{capability_statement, capabilities_written}
use Rattle.config_reader.proofs.capabilities.capabilities_written.Given as goal

abbrev pub invariant-capabilities : goal.invariant-capabilities
invariant-capabilities l = record {
  end : l.words.end ≡ l.fn.words.end;
  whole : (left : List Placed) (answer : Result Capabilities ConfigError)
      → Answers (until (is_sign 125) capability_statement l.written) l.fn.words.end l.words.left left answer
      → Answers capabilities_written l.fn.words.end l.fn.words.left left answer;
}

abbrev pub decreases-capabilities : goal.decreases-capabilities
decreases-capabilities l = length l.words.left
