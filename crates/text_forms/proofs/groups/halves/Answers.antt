use Rattle.text_forms.proofs.groups.halves.Goals as goal

pub returns-in_err-number-clause-none : goal.returns-in_err-number-clause-none
returns-in_err-number-clause-none c = rw c.from_residual.ensures
    (λ high low is. c.in_err-number.ensures.none _ is.dotted)
