use Rattle.std.proofs.Common.{◌++◌}
use Rattle.std.proofs.lemmas.Result.{err_from_is_err_and}
use Rattle.script_play.proofs.RunLemmas.{cut_endless, cut_last, cut_more, cut_none, cut_stopped}
use Rattle.script_play.proofs.encoding.cut_slot.Goals as goal

pub cuts-init : goal.cuts-init
cuts-init g c = λ cfg H stands. cut_none _ cfg H _ _ stands

pub cuts-preserved : goal.cuts-preserved
cuts-preserved g c = λ cfg H stands.
    let was = c.cuts.invariant cfg H stands in
    cut_more _ cfg H _ _ _ _ _ c.in_ok-cut_once.field-0 was c.if-not-branch.false
    (c.in_ok-cut_once.ensures cfg (was.run.added ++ H) was.run.stands)

pub returns-in_err-cut_once : goal.returns-in_err-cut_once
returns-in_err-cut_once g c =
    let e = err_from_is_err_and c.from_residual.result c.from_residual.ensures.1 in
    λ cfg H stands.
    let was = c.cuts.invariant cfg H stands in
    rw (e.1, e.2)
    (cut_stopped _ cfg H _ c.cut_once.new.player c.cut_once.new.player _ _ _ _ was
    (c.in_err-cut_once.ensures cfg (was.run.added ++ H) was.run.stands))

pub returns-then-not-branch : goal.returns-then-not-branch
returns-then-not-branch g c = λ cfg H stands.
    let was = c.cuts.invariant cfg H stands in
    cut_last _ cfg H _ _ _ _ _ c.in_ok-cut_once.field-0 was c.if-not-branch.true
    (c.in_ok-cut_once.ensures cfg (was.run.added ++ H) was.run.stands)

pub returns : goal.returns
returns g c = λ cfg H stands. cut_endless _ cfg H _ c.cuts.player _ _ (c.cuts.invariant cfg H stands)
