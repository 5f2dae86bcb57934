use Rattle.std.proofs.Common.{◌∙◌}
use Rattle.peer_worker.proofs.StepLemmas.{finished}
use Rattle.peer_worker.proofs.session.finish.Goals as goal

pub returns-clause-goes : goal.returns-clause-goes
returns-clause-goes g c =
    finished _ _ _ _ _ _ _ c.args.machine.now.own _ _ _ c.act_all.ensures
    (c.as_slice.ensures.value ∙ c.step-todo.ensures.actions) c.requires.up
