use Rattle.std.proofs.Common.{arith}
use Rattle.text_forms.proofs.PrintedLemmas.{one_digit, two_digits, three_digits, four_digits}
use Rattle.text_forms.proofs.printing.zeros_before.Goals as goal

pub returns-then-group-lt16-clause-text : goal.returns-then-group-lt16-clause-text
returns-then-group-lt16-clause-text c = one_digit c.args.group (omega arith)

pub returns-then-group-lt256-clause-text : goal.returns-then-group-lt256-clause-text
returns-then-group-lt256-clause-text c = two_digits c.args.group (omega arith) (omega arith)

pub returns-then-group-lt4096-clause-text : goal.returns-then-group-lt4096-clause-text
returns-then-group-lt4096-clause-text c = three_digits c.args.group (omega arith) (omega arith)

pub returns-else-group-lt4096-clause-text : goal.returns-else-group-lt4096-clause-text
returns-else-group-lt4096-clause-text c = four_digits c.args.group (omega arith) (omega arith)
