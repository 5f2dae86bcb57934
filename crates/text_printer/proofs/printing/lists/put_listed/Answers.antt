use Rattle.std.proofs.Common.{[], ◌∷◌, ◌++◌, arith, sym, ◌∙◌, subst}
use Rattle.std.proofs.lemmas.Bool.{eqb-false}
use Rattle.token_reader.specs.Tokens.{Word}
use Rattle.text_printer.specs.Items.{opening_bracket, closing_bracket, word_each, listed}
use Rattle.text_printer.specs.Spaced.{GoesOn}
use Rattle.text_printer.proofs.SpacedLemmas.{goes_then, listed_some}
use Rattle.text_printer.proofs.printing.lists.put_listed.Goals as goal

pub returns : goal.returns
returns g c =
    let name = c.args.name.now in
    let text = g.W.Wording.word_of c.args.wording.now in
    let values = c.as_slice-values.result.now in
    let tokens = word_each text values in
    let some = eqb-false _ 0 (sym c.is_empty.ensures ∙ c.if-is_empty.false) in
    subst (λ all. GoesOn (listed name text all) c.args.text.now.items c.put_mark-2.new.text.items)
    c.as_slice-values.ensures
    (listed_some name text values c.args.text.now.items c.put_mark-2.new.text.items (omega (arith, some))
    (goes_then (Word name ∷ []) (opening_bracket ∷ (tokens ++ closing_bracket ∷ [])) _ _ _
    c.in_ok-put_word.ensures
    (goes_then (opening_bracket ∷ []) (tokens ++ closing_bracket ∷ []) _ _ _ c.in_ok-put_mark.ensures
    (goes_then tokens (closing_bracket ∷ []) _ _ _ c.in_ok-put_each.ensures c.in_ok-put_mark-2.ensures))))
