use Rattle.std.proofs.Common.{◌++◌, ◌∙◌, ap}
use Rattle.token_reader.specs.Tokens.{Word}
use Rattle.text_printer.proofs.SpacedLemmas.{goes_one}
use Rattle.text_printer.proofs.printing.tokens.put_word.Goals as goal

pub returns : goal.returns
returns c =
    goes_one _ _ (Word c.args.word.now)
    (c.in_ok-extend_from_slice.ensures.items ∙ ap (λ text. text ++ c.args.word.now) c.in_ok-push.ensures.items)
