use Rattle.peer_worker.specs.Goings.{CanCut, Goes, IsPlace}
use Rattle.peer_worker.specs.Places.{after_cut}
use Rattle.peer_worker.specs.Wires.{wire}
use Rattle.peer_worker.proofs.session.cut_some.Given as goal

-- messages were cut
abbrev pub invariant-loop : goal.invariant-loop
invariant-loop g l =
    Goes l.fn.n l.fn.own l.fn.pass (wire g.L.Link l.fn.voice l.fn.desk) CanCut (IsPlace (after_cut l.given)) l.pass
    (wire g.L.Link l.voice l.desk)
