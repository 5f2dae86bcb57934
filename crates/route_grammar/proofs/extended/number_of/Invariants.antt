use Rattle.std.proofs.Common.{◌≡◌, take}
use Rattle.std.specs.Str.Parse.{AllDigits, digits_value}
use Rattle.route_grammar.proofs.extended.number_of.Given as goal

abbrev pub invariant-loop-i : goal.invariant-loop-i
invariant-loop-i l = record {
  digits : AllDigits 16 (take l.i l.digits);
  value : l.number ≡ digits_value 16 (take l.i l.digits);
}
