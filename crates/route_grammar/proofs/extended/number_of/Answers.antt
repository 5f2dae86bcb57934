use Rattle.std.proofs.Common.{arith}
use Rattle.std.proofs.lemmas.Int.Digits.{digits_more, digits_value_more}
use Rattle.text_forms.proofs.Ipv6Lemmas.{digit_in}
use Rattle.route_grammar.proofs.ExtendedLemmas.{digits_below}
use Rattle.route_grammar.proofs.extended.number_of.Goals as goal

pub returns-in_default : goal.returns-in_default
returns-in_default c = λ digits. c.in_default.ensures (digit_in c.args.digits.now c.loop-i.i digits (omega arith))

pub overflow_mul-number : goal.overflow_mul-number
overflow_mul-number c =
    let small = digits_below c.args.digits.now c.loop-i.i c.requires (omega arith) c.loop-i.invariant.digits in
    omega (arith, small, c.loop-i.invariant.value)

pub overflow_add-number : goal.overflow_add-number
overflow_add-number c =
    let small = digits_below c.args.digits.now c.loop-i.i c.requires (omega arith) c.loop-i.invariant.digits in
    omega (arith, small, c.loop-i.invariant.value, c.in-Some.ensures.0, c.in-Some.ensures.1, c.from.ensures)

pub loop-i-preserved : goal.loop-i-preserved
loop-i-preserved c = record {
  digits = digits_more 16 c.args.digits.now c.loop-i.i (omega arith) c.loop-i.invariant.digits c.in-Some.ensures.0;
  value = omega (
    arith,
    c.loop-i.invariant.value,
    c.in-Some.ensures.1,
    c.from.ensures,
    digits_value_more 16 c.args.digits.now c.loop-i.i (omega arith),
  );
}
