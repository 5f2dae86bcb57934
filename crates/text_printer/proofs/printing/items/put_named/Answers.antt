use Rattle.std.proofs.Common.{[], ◌∷◌}
use Rattle.token_reader.specs.Tokens.{Word}
use Rattle.text_printer.proofs.SpacedLemmas.{goes_then}
use Rattle.text_printer.proofs.printing.items.put_named.Goals as goal

pub returns : goal.returns
returns c =
    goes_then (Word c.args.name.now ∷ []) (Word c.args.operand.now ∷ []) _ _ _ c.in_ok-put_word.ensures
    c.in_ok-put_word-2.ensures
