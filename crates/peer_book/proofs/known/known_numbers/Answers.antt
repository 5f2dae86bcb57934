use Rattle.std.proofs.Common.{subst}
use Rattle.std.specs.List.{AllByRecursion}
use Rattle.std.proofs.lemmas.List.{take_all}
use Rattle.update_grammar.specs.Values.{IsNumber}
use Rattle.peer_book.proofs.KnownLemmas.{all_next}
use Rattle.peer_book.proofs.known.known_numbers.Goals as goal

pub numbers-init : goal.numbers-init
numbers-init c = tt

pub numbers-preserved : goal.numbers-preserved
numbers-preserved c =
    all_next IsNumber c.args.numbers.now c.numbers.number-index 0 c.numbers-test.true
    c.numbers.invariant c.known_number.ensures

pub returns : goal.returns
returns c =
    subst (AllByRecursion IsNumber)
    (take_all c.numbers.number-index c.args.numbers.now c.numbers-test.false) c.numbers.invariant
