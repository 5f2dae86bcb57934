use Rattle.std.proofs.Common.{◌≡◌, List, length, Result}
use Rattle.route_values.specs.declared.pick.Pick.{Pick}
use Rattle.token_reader.specs.declared.token.Place.{Place}
use Rattle.token_reader.specs.Tokens.{Placed}
use Rattle.route_grammar.specs.declared.fault.ReadFault.{ReadFault}
use Rattle.route_grammar.specs.Answered.{Answers}
use Rattle.route_grammar.specs.Limits.{in_force}
use Rattle.command_grammar.specs.Selectors.{Qualified, further_pick}
use Rattle.command_grammar.proofs.selectors.qualified.Given as goal

abbrev pub invariant-qualifiers : goal.invariant-qualifiers
invariant-qualifiers l = record {
  end : l.words.end ≡ l.fn.words.end;
  whole : (left : List Placed) (end : Place) (answer : Result Pick ReadFault)
      → Answers (Qualified l.pick) further_pick in_force l.words.left left end answer
      → Answers (Qualified l.fn.bare) further_pick in_force l.fn.words.left left end answer;
}

abbrev pub decreases-qualifiers : goal.decreases-qualifiers
decreases-qualifiers l = length l.words.left
