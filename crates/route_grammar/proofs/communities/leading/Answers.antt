use Rattle.route_grammar.proofs.TextLemmas.{colon_none, colon_cut}
use Rattle.route_grammar.proofs.communities.leading.Goals as goal

pub returns-in_err-front-clause-none : goal.returns-in_err-front-clause-none
returns-in_err-front-clause-none c =
    rw c.from_residual.ensures (λ number tail small is. colon_none c.args.text.now number tail
    c.in_err-front.ensures.none is)

pub returns-in_err-number-clause-none : goal.returns-in_err-number-clause-none
returns-in_err-number-clause-none c =
    rw c.from_residual-in_err-number.ensures (λ number tail small is.
    c.in_err-number.ensures.none number small
    (colon_cut c.args.text.now c.in_ok-front.front.now c.in_ok-front.rest.now number tail c.in_ok-front.ensures.found
    c.in_ok-front.ensures.first small is).0)

pub returns-clause-only : goal.returns-clause-only
returns-clause-only c = λ number tail small is.
    (colon_cut c.args.text.now c.in_ok-front.front.now c.in_ok-front.rest.now number tail c.in_ok-front.ensures.found
    c.in_ok-front.ensures.first small is).1
