use Rattle.std.specs.Prelude.{[]}
use Rattle.daemon.proofs.run.run_gate.Given as goal

-- The jobs' gate is named; they name no pass
abbrev pub ghosts-run_jobs : goal.ghosts-run_jobs
ghosts-run_jobs g a = record { gate = a.gate.now; writer = [] }
