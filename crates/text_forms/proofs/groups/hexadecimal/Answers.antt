use Rattle.std.proofs.Common.{ℕ, ◌<◌, ◌≤◌, length, take, get_or, arith, ap, ◌∙◌, sym}
use Rattle.std.proofs.lemmas.List.{length-take-le}
use Rattle.std.proofs.lemmas.Int.Digits.{digits_more, digits_value_more}
use Rattle.text_forms.proofs.Ipv6Lemmas.{digits_short, digit_in}
use Rattle.text_forms.proofs.groups.hexadecimal.Goals as goal

pub returns-in_default : goal.returns-in_default
returns-in_default c = λ digits. c.in_default.ensures (digit_in c.args.text.now c.loop-i.i digits (omega arith))

pub overflow_mul-number : goal.overflow_mul-number
overflow_mul-number c =
    let len = length-take-le c.loop-i.i c.args.text.now (omega arith) in
    let small = digits_short (take c.loop-i.i c.args.text.now) c.loop-i.invariant.digits (omega (arith, len)) in
    omega (arith, small)

pub overflow_add-number : goal.overflow_add-number
overflow_add-number c =
    let len = length-take-le c.loop-i.i c.args.text.now (omega arith) in
    let small = digits_short (take c.loop-i.i c.args.text.now) c.loop-i.invariant.digits (omega (arith, len)) in
    omega (arith, small, c.in-Some.ensures.0, c.in-Some.ensures.1)

pub loop-i-preserved : goal.loop-i-preserved
loop-i-preserved c = record {
  digits = digits_more 16 c.args.text.now c.loop-i.i (omega arith) c.loop-i.invariant.digits c.in-Some.ensures.0;
  value = omega (
    arith,
    c.in-Some.ensures.1,
    digits_value_more 16 c.args.text.now c.loop-i.i (omega arith),
  );
}

pub overflow_cast-result : goal.overflow_cast-result
overflow_cast-result c =
    let len = length-take-le c.loop-i.i c.args.text.now (omega arith) in
    let small = digits_short (take c.loop-i.i c.args.text.now) c.loop-i.invariant.digits (omega (arith, len)) in
    omega (arith, small)
