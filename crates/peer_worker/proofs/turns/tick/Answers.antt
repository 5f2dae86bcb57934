use Rattle.peer_worker.proofs.StepLemmas.{goes_none, handled_other}
use Rattle.peer_worker.proofs.turns.tick.Goals as goal

pub returns-in-Nothing : goal.returns-in-Nothing
returns-in-Nothing g c = goes_none _ _ _ _ _

pub returns-in-Keepalive : goal.returns-in-Keepalive
returns-in-Keepalive g c = handled_other _ _ _ _ _ _ c.args.machine.now.own _ _ _ tt c.handle.ensures

pub returns-in-Over : goal.returns-in-Over
returns-in-Over g c = handled_other _ _ _ _ _ _ c.args.machine.now.own _ _ _ tt c.handle-in-Over.ensures
