use Rattle.std.proofs.Common.{[], ◌∷◌, ◌++◌, ◌∙◌, ap}
use Rattle.token_reader.specs.Tokens.{Mark}
use Rattle.text_printer.proofs.SpacedLemmas.{goes_one}
use Rattle.text_printer.proofs.printing.tokens.put_mark.Goals as goal

pub returns : goal.returns
returns c =
    goes_one _ _ (Mark c.args.sign)
    (c.in_ok-push-2.ensures.items ∙ ap (λ text. text ++ c.args.sign ∷ []) c.in_ok-push.ensures.items)
