use Rattle.std.proofs.Common.{◌≡◌, List, length, Result}
use Rattle.token_reader.specs.Tokens.{Placed}
use Rattle.config_model.specs.declared.sections.StaticRoute.{StaticRoute}
use Rattle.config_reader.specs.declared.fault.ConfigError.{ConfigError}
use Rattle.config_reader.specs.Answered.{Answers}
use Rattle.config_reader.specs.Rules.{until, is_sign}
use Rattle.config_reader.specs.Statics.{route_statement}
use Rattle.config_reader.proofs.statics.routes_listed.Given as goal

abbrev pub invariant-listed : goal.invariant-listed
invariant-listed l = record {
  end : l.words.end ≡ l.fn.words.end;
  whole : (left : List Placed) (answer : Result (List StaticRoute) ConfigError)
      → Answers (until (is_sign 125) route_statement l.all) l.fn.words.end l.words.left left answer
      → Answers (until (is_sign 125) route_statement l.fn.routes) l.fn.words.end l.fn.words.left left answer;
}

abbrev pub decreases-listed : goal.decreases-listed
decreases-listed l = length l.words.left
