use Rattle.std.proofs.Common.{All, take}
use Rattle.text_printer.specs.Printable.{IsAs}
use Rattle.text_printer.proofs.printing.writable.has_no_zero.Given as goal

abbrev pub invariant-numbers : goal.invariant-numbers
invariant-numbers l = All IsAs (take l.number-index l.numbers)
