use Rattle.std.proofs.Common.{take}
use Rattle.text_printer.specs.Items.{word_each}
use Rattle.text_printer.specs.Spaced.{GoesOn}
use Rattle.text_printer.proofs.printing.lists.put_each.Given as goal

abbrev pub invariant-loop-value : goal.invariant-loop-value
invariant-loop-value g l =
    GoesOn (word_each (g.W.Wording.word_of l.wording) (take l.value-index l.values)) l.fn.text.items l.text.items
