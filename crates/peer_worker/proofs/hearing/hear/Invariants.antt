use Rattle.std.proofs.Common.{◌≤◌, length}
use Rattle.peer_worker.specs.Goings.{Fits, Goes}
use Rattle.peer_worker.specs.Wires.{wire}
use Rattle.peer_worker.proofs.hearing.hear.Given as goal

-- all messages so far were heard
abbrev pub invariant-loop : goal.invariant-loop
invariant-loop g l =
    record {
      within : l.taken ≤ length l.piece;
      goes : Goes l.fn.n l.fn.own l.initial.pass (wire g.L.Link l.initial.voice l.initial.desk)
          (Fits l.initial.machine.state) (Fits l.machine.state) l.pass (wire g.L.Link l.voice l.desk);
    }
