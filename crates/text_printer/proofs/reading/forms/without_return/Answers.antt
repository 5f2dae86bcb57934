use Rattle.std.proofs.Common.{sym, ◌∙◌, ap, ◌++◌, [], ◌∷◌}
use Rattle.text_forms.specs.Lines.{without_return}
use Rattle.text_forms.proofs.LineLemmas.{without_return-end, without_return-other}
use Rattle.text_printer.proofs.reading.forms.without_return.Goals as goal

pub returns-in-Some : goal.returns-in-Some
returns-in-Some c =
    let front = c.in-Some.front.now in
    let whole = c.in-Some.ensures.cases.0 ∙ ap (λ x. front ++ x ∷ []) c.if-last-eq13.true in
    sym (ap without_return whole ∙ without_return-end front)

pub returns-in_default : goal.returns-in_default
returns-in_default c =
    let whole = c.in-Some.ensures.cases.0 in
    let same = without_return-other c.in-Some.front.now c.in-Some.last.now c.if-last-eq13.false in
    whole ∙ sym (ap without_return whole ∙ same)
