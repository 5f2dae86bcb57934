use Rattle.std.proofs.Common.{sym}
use Rattle.route_grammar.proofs.communities.large_of.Goals as goal

pub returns-in_err-global-clause-none : goal.returns-in_err-global-clause-none
returns-in_err-global-clause-none c =
    rw c.from_residual.ensures (λ other is. c.in_err-global.ensures.none other.global _ is.global_small is.word_is)

pub returns-in_err-first-clause-none : goal.returns-in_err-first-clause-none
returns-in_err-first-clause-none c =
    rw c.from_residual-in_err-first.ensures (λ other is.
    let parts = c.in_ok-global.ensures.only other.global _ is.global_small is.word_is in
    c.in_err-first.ensures.none other.first _ is.first_small (sym parts))

pub returns-in_err-second-clause-none : goal.returns-in_err-second-clause-none
returns-in_err-second-clause-none c =
    rw c.from_residual-in_err-second.ensures (λ other is.
    let parts = c.in_ok-global.ensures.only other.global _ is.global_small is.word_is in
    let rest = c.in_ok-first.ensures.only other.first _ is.first_small (sym parts) in
    c.in_err-second.ensures.none other.second is.second_small (sym rest))
