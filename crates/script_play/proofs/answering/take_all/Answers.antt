use Rattle.std.proofs.Common.{◌++◌}
use Rattle.std.proofs.lemmas.Result.{err_from_is_err_and}
use Rattle.script_play.proofs.RunLemmas.{taken_endless, taken_last, taken_more, taken_none, taken_stopped}
use Rattle.script_play.proofs.answering.take_all.Goals as goal

pub takes-init : goal.takes-init
takes-init g c = λ cfg H stands. taken_none cfg H _ _ stands

pub takes-preserved : goal.takes-preserved
takes-preserved g c = λ cfg H stands.
    let was = c.takes.invariant cfg H stands in
    taken_more cfg H _ _ _ _ _ c.in_ok-take_once.field-0 was c.if-not-branch.false
    (c.in_ok-take_once.ensures cfg (was.run.added ++ H) was.run.stands)

pub returns-in_err-take_once : goal.returns-in_err-take_once
returns-in_err-take_once g c =
    let e = err_from_is_err_and c.from_residual.result c.from_residual.ensures.1 in
    λ cfg H stands.
    let was = c.takes.invariant cfg H stands in
    rw (e.1, e.2)
    (taken_stopped cfg H _ c.take_once.new.player c.take_once.new.player _ _ _ _ was
    (c.in_err-take_once.ensures cfg (was.run.added ++ H) was.run.stands))

pub returns-then-not-branch : goal.returns-then-not-branch
returns-then-not-branch g c = λ cfg H stands.
    let was = c.takes.invariant cfg H stands in
    taken_last cfg H _ _ _ _ _ c.in_ok-take_once.field-0 was c.if-not-branch.true
    (c.in_ok-take_once.ensures cfg (was.run.added ++ H) was.run.stands)

pub returns : goal.returns
returns g c = λ cfg H stands. taken_endless cfg H _ c.takes.player _ _ (c.takes.invariant cfg H stands)
