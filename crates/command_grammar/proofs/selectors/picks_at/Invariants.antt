use Rattle.std.proofs.Common.{◌≡◌, false, List, length, Result}
use Rattle.route_values.specs.declared.pick.Pick.{Pick}
use Rattle.token_reader.specs.declared.token.Place.{Place}
use Rattle.token_reader.specs.Tokens.{Placed, front_token}
use Rattle.route_grammar.specs.declared.fault.ReadFault.{ReadFault}
use Rattle.route_grammar.specs.Answered.{Answers}
use Rattle.route_grammar.specs.Limits.{in_force}
use Rattle.command_grammar.specs.Selectors.{FurtherPicks, Picks, further_pick, further_picks}
use Rattle.command_grammar.proofs.selectors.picks_at.Given as goal

abbrev pub invariant-picks : goal.invariant-picks
invariant-picks l = record {
  end : l.words.end ≡ l.fn.words.end;
  stops : further_pick (front_token l.words.left) ≡ false;
  whole : (left : List Placed) (end : Place) (answer : Result (List Pick) ReadFault)
      → Answers (FurtherPicks l.picks) further_picks in_force l.words.left left end answer
      → Answers Picks further_picks in_force l.fn.words.left left end answer;
}

abbrev pub decreases-picks : goal.decreases-picks
decreases-picks l = length l.words.left
