use Rattle.std.proofs.Common.{◌≡◌, List, length, Result}
use Rattle.token_reader.specs.Tokens.{Placed}
use Rattle.config_reader.specs.declared.fault.ConfigError.{ConfigError}
use Rattle.config_reader.specs.declared.written.Families.{Families}
use Rattle.config_reader.specs.Answered.{Answers}
use Rattle.config_reader.specs.Rules.{until, is_sign}
use Rattle.config_reader.specs.Families.{family_statement, families_listed}
use Rattle.config_reader.proofs.families.families_listed.Given as goal

abbrev pub invariant-families : goal.invariant-families
invariant-families l = record {
  end : l.words.end ≡ l.fn.words.end;
  whole : (left : List Placed) (answer : Result Families ConfigError)
      → Answers (until (is_sign 125) family_statement l.listed) l.fn.words.end l.words.left left answer
      → Answers families_listed l.fn.words.end l.fn.words.left left answer;
}

abbrev pub decreases-families : goal.decreases-families
decreases-families l = length l.words.left
