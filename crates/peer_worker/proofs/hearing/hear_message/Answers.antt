use Rattle.peer_worker.proofs.StepLemmas.{handled_other}
use Rattle.peer_worker.proofs.hearing.hear_message.Goals as goal

pub returns : goal.returns
returns g c = handled_other _ _ _ _ _ _ c.args.machine.now.own _ _ _ c.event_of-event.ensures c.handle.ensures
