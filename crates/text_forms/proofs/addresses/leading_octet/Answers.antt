use Rattle.std.proofs.Common.{arith, ap, ◌∙◌, ◌++◌, ◌∷◌, List, ℕ}
use Rattle.text_forms.proofs.AddressLemmas.{leading_cut, leading_none, leading_one}
use Rattle.text_forms.proofs.addresses.leading_octet.Goals as goal

pub returns-in_err-front-clause-none : goal.returns-in_err-front-clause-none
returns-in_err-front-clause-none c =
    rw c.from_residual.ensures (λ number tail small is. leading_none c.args.text.now number tail
    c.in_err-front.ensures.none is)

pub returns-in_err-number-clause-none : goal.returns-in_err-number-clause-none
returns-in_err-number-clause-none c =
    rw c.from_residual-in_err-number.ensures (λ number tail small is.
    c.in_err-number.ensures.none number small
    (leading_cut c.args.text.now c.in_ok-front.front.now c.in_ok-front.rest.now number tail c.in_ok-front.ensures.found
    c.in_ok-front.ensures.first small is))

pub returns-clause-only : goal.returns-clause-only
returns-clause-only c = λ number tail small is.
    let rest : List ℕ = c.in_ok-front.rest.now in
    let found = c.in_ok-front.ensures.found ∙ ap (λ before. before ++ 46 ∷ rest) c.in_ok-number.ensures.found in
    leading_one c.args.text.now number c.in_ok-number.number tail rest small (omega arith) is found
