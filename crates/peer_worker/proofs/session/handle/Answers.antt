use Rattle.std.proofs.Common.{◌∙◌}
use Rattle.peer_worker.proofs.StepLemmas.{handled_none, handled_some, is_found}
use Rattle.peer_worker.proofs.session.handle.Goals as goal

pub begin-requires-clause-up : goal.begin-requires-clause-up
begin-requires-clause-up g c = is_found c.step-todo.new.self _ _ _ _ c.state.ensures c.come_up.ensures c.in-Some.is

pub returns-in-Some : goal.returns-in-Some
returns-in-Some g c =
    handled_some _ _ _ _ _ _ _ _ _ _ _ _ _ _ _ _ _ c.act_all.ensures
    (c.as_slice.ensures.value ∙ c.step-todo.ensures.actions) c.step-todo.ensures.state c.state-was.ensures
    c.state.ensures c.come_up.ensures c.in-Some.is c.begin.ensures

pub returns-in-None : goal.returns-in-None
returns-in-None g c =
    handled_none _ _ _ _ _ _ _ _ _ _ _ _ _ c.act_all.ensures
    (c.as_slice.ensures.value ∙ c.step-todo.ensures.actions) c.step-todo.ensures.state c.state-was.ensures
    c.state.ensures c.come_up.ensures c.in-None.is
