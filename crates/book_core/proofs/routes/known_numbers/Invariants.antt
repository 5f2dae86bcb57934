use Rattle.std.proofs.Common.{take}
use Rattle.std.specs.List.{AllByRecursion}
use Rattle.update_grammar.specs.Values.{IsNumber}
use Rattle.book_core.proofs.routes.known_numbers.Given as goal

abbrev pub invariant-numbers : goal.invariant-numbers
invariant-numbers l = AllByRecursion IsNumber (take l.number-index l.numbers)
