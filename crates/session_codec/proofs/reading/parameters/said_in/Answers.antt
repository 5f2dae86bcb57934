use Rattle.std.proofs.Common.{sym, ◌∙◌}
use Rattle.std.proofs.lemmas.Result.{err_from_is_err_and}
use Rattle.session_codec.proofs.ReadingLemmas.{parameters_shorter, parameters_go_on, parameters_stop, parameters_end}
use Rattle.session_codec.proofs.reading.parameters.said_in.Goals as goal

pub returns-in_err-more : goal.returns-in_err-more
returns-in_err-more c =
    let e = err_from_is_err_and c.from_residual.result c.from_residual.ensures.1 in
    rw (e.1, e.2) (parameters_stop _ _ _ _ (sym c.is_empty.ensures ∙ c.parameters-test.true) c.in_err-more.ensures
    c.parameters.invariant)

pub parameters-smaller : goal.parameters-smaller
parameters-smaller c = parameters_shorter _ _ _ c.in_ok-more.ensures

pub parameters-preserved : goal.parameters-preserved
parameters-preserved c =
    parameters_go_on _ _ _ _ _ _ c.in_ok-more.ensures c.followed_by-said.ensures c.parameters.invariant

pub returns : goal.returns
returns c = parameters_end _ _ _ (sym c.is_empty.ensures ∙ c.parameters-test.false) c.parameters.invariant
