use Rattle.std.proofs.Common.{take}
use Rattle.peer_worker.specs.Goings.{Carries, Does}
use Rattle.peer_worker.specs.Wires.{wire}
use Rattle.peer_worker.proofs.acting.act_all.Given as goal

-- the actions so far are done
abbrev pub invariant-loop-action : goal.invariant-loop-action
invariant-loop-action g l =
    Does l.fn.n l.fn.own l.initial.pass (wire g.L.Link l.initial.voice l.initial.desk)
    (Carries (take l.action-index l.todo)) l.pass (wire g.L.Link l.voice l.desk)
