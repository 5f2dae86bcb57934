use Rattle.peer_worker.proofs.MessageLemmas.{is_message}
use Rattle.peer_worker.proofs.StepLemmas.{goes_none, handled_other}
use Rattle.peer_worker.proofs.hearing.hear_front.Goals as goal

pub returns-in-NotYet : goal.returns-in-NotYet
returns-in-NotYet g c = goes_none _ _ _ _ _

pub returns-in-Fault : goal.returns-in-Fault
returns-in-Fault g c = handled_other _ _ _ _ _ _ c.args.machine.now.own _ _ _ tt c.handle.ensures

pub hear_message-requires-clause-message : goal.hear_message-requires-clause-message
hear_message-requires-clause-message g c = is_message _ _ _ c.in-Frame.ensures.sized
