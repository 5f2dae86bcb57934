use Rattle.std.proofs.Common.{take}
use Rattle.update_grammar.specs.Values.{numbers_text}
use Rattle.attr_codec.specs.Buffer.{Appended}
use Rattle.attr_codec.proofs.writing.lists.put_numbers.Given as goal

abbrev pub invariant-loop-number : goal.invariant-loop-number
invariant-loop-number l = Appended l.fn.out l.out (numbers_text (take l.number-index l.numbers))
