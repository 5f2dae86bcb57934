use Rattle.peer_worker.specs.Goings.{Fits, Goes, IsPlace}
use Rattle.peer_worker.specs.Places.{start}
use Rattle.peer_worker.specs.Wires.{wire}
use Rattle.peer_worker.proofs.turns.converse.Given as goal

-- turns were made
abbrev pub invariant-loop : goal.invariant-loop
invariant-loop g l =
    Goes l.fn.n l.fn.own l.fn.pass (wire g.L.Link l.fn.voice l.fn.desk) (IsPlace start) (Fits l.machine.state) l.pass
    (wire g.L.Link l.voice l.desk)
