use Rattle.std.proofs.Common.{◌∙◌, ap}
use Rattle.session_machine.specs.Session.{Session}
use Rattle.peer_worker.specs.Goings.{is_idle}
use Rattle.peer_worker.proofs.StepLemmas.{goes_more, goes_over, goes_still, handled_connected}
use Rattle.peer_worker.proofs.turns.converse.Goals as goal

pub loop-init : goal.loop-init
loop-init g c =
    handled_connected _ _ _ _ _ _ c.new-machine.result.own _ _
    (ap (λ (machine : Session). machine.state) c.new-machine.ensures) c.handle.ensures

pub loop-preserved : goal.loop-preserved
loop-preserved g c =
    goes_more _ _ _ _ _ _ _ _ _ _ _
    (goes_still _ _ _ _ _ _ _ _ _ (goes_more _ _ _ _ _ _ _ _ _ _ _ c.loop.invariant c.cut_if_up-more.ensures)
    c.flush.ensures.said)
    c.turn.ensures

pub returns-then-is_idle-clause-goes : goal.returns-then-is_idle-clause-goes
returns-then-is_idle-clause-goes g c =
    goes_over _ _ _ _ _ _ _ _ (c.if-is_idle.ensures ∙ ap is_idle c.state.ensures)
    (goes_still _ _ _ _ _ _ _ _ _ (goes_more _ _ _ _ _ _ _ _ _ _ _ c.loop.invariant c.cut_if_up-more.ensures)
    c.flush.ensures.said)
