use Rattle.helper_worker.proofs.tests.worked.Given as goal
use Rattle.std.specs.Prelude.{[]}

abbrev pub ghosts-work : goal.ghosts-work
ghosts-work g a = record { gate = a.gate.now; writer = [] }
