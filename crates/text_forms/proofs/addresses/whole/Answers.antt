use Rattle.text_forms.proofs.addresses.whole.Goals as goal

pub returns-in_err-number-clause-none : goal.returns-in_err-number-clause-none
returns-in_err-number-clause-none c =
    rw c.from_residual.ensures (λ number is canonical. c.in_err-number.ensures.none number is)
