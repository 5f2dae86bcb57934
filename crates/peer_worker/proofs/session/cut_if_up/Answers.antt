use Rattle.peer_worker.proofs.StepLemmas.{goes_none, live_goes, up_stands}
use Rattle.peer_worker.proofs.session.cut_if_up.Goals as goal

pub returns-in-Idle : goal.returns-in-Idle
returns-in-Idle g c = goes_none _ _ _ _ _

pub returns-in-OpenSent : goal.returns-in-OpenSent
returns-in-OpenSent g c = goes_none _ _ _ _ _

pub returns-in-OpenConfirm : goal.returns-in-OpenConfirm
returns-in-OpenConfirm g c = goes_none _ _ _ _ _

pub cut_now-requires-clause-up : goal.cut_now-requires-clause-up
cut_now-requires-clause-up g c = up_stands _ _ _ c.state.ensures c.in-Established.is

pub returns-in-Established : goal.returns-in-Established
returns-in-Established g c = live_goes _ _ _ _ _ _ _ _ _ _ c.state.ensures c.in-Established.is c.cut_now.ensures
