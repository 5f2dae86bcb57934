use Rattle.std.proofs.Common.{[], ◌∷◌, ◌++◌, decimal}
use Rattle.text_printer.specs.Items.{opening_paren, closing_paren, word_each}
use Rattle.text_printer.proofs.SpacedLemmas.{goes_then}
use Rattle.text_printer.proofs.printing.path.put_set.Goals as goal

pub returns : goal.returns
returns c =
    let numbers = c.args.numbers.now in
    goes_then (opening_paren ∷ []) (word_each decimal numbers ++ closing_paren ∷ []) _ _ _ c.in_ok-put_mark.ensures
    (goes_then (word_each decimal numbers) (closing_paren ∷ []) _ _ _ c.in_ok-put_each.ensures
    c.in_ok-put_mark-2.ensures)
