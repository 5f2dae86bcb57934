use Rattle.std.proofs.Common.{take}
use Rattle.peer_book.specs.Known.{AreNumbers}
use Rattle.peer_book.proofs.known.known_numbers.Given as goal

abbrev pub invariant-numbers : goal.invariant-numbers
invariant-numbers l = AreNumbers (take l.number-index l.numbers)
