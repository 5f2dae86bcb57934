use Rattle.peer_worker.proofs.StepLemmas.{goes_none, handled_other, still_goes}
use Rattle.peer_worker.proofs.turns.listen.Goals as goal

pub returns-in-Got : goal.returns-in-Got
returns-in-Got g c = still_goes _ _ _ _ _ _ _ _ _ (c.in-Got.ensures.still c.args.desk.now) c.take_in.ensures

pub returns-in-Quiet : goal.returns-in-Quiet
returns-in-Quiet g c =
    still_goes _ _ _ _ _ _ _ _ _ (c.in-Quiet.ensures.still c.args.desk.now) (goes_none _ _ _ _ _)

pub returns-in-End : goal.returns-in-End
returns-in-End g c =
    still_goes _ _ _ _ _ _ _ _ _ (c.in-End.ensures.still c.args.desk.now)
    (handled_other _ _ _ _ _ _ c.args.machine.now.own _ _ _ tt c.handle.ensures)

pub returns-in-Failed : goal.returns-in-Failed
returns-in-Failed g c =
    still_goes _ _ _ _ _ _ _ _ _ (c.in-Failed.ensures.still c.args.desk.now)
    (handled_other _ _ _ _ _ _ c.args.machine.now.own _ _ _ tt c.handle-in-Failed.ensures)
