use Rattle.std.proofs.Common.{arith, refl}
use Rattle.text_printer.specs.Printable.{IsAs}
use Rattle.text_printer.proofs.WritableLemmas.{all_more, all_taken}
use Rattle.text_printer.proofs.printing.writable.has_no_zero.Goals as goal

pub numbers-preserved : goal.numbers-preserved
numbers-preserved c =
    all_more IsAs c.args.numbers.now c.numbers.number-index 0 c.numbers-test.true c.numbers.invariant
    (omega (arith, c.if-number-eq-NO_AS.false))

pub returns : goal.returns
returns c = (
  (λ held. all_taken IsAs c.args.numbers.now c.numbers.number-index c.numbers-test.false c.numbers.invariant),
  (λ all. refl),
)
