use Rattle.std.proofs.Common.{arith, sym}
use Rattle.script_grammar.proofs.NumberLemmas.{number_found, number_none}
use Rattle.script_grammar.proofs.operands.slot_below.Goals as goal

pub returns-in_default : goal.returns-in_default
returns-in_default c =
    sym (number_none c.args.bound c.args.word.now (λ other within is. c.in_default.ensures.none other (omega arith) is))

pub returns-then-number-bound : goal.returns-then-number-bound
returns-then-number-bound c =
    sym (number_found c.args.bound c.in-Some.number c.args.word.now (omega arith) (omega arith)
    c.in-Some.ensures.found)

pub returns-else-number-bound : goal.returns-else-number-bound
returns-else-number-bound c =
    sym (number_none c.args.bound c.args.word.now (λ other within is.
    let same = c.in-Some.ensures.only other (omega arith) is in absurd (omega arith)))
