use Rattle.helper_worker.proofs.RunLemmas.{Waits}
use Rattle.helper_worker.proofs.line.enter_read.Given as goal

-- it waited each time
abbrev pub invariant-loop : goal.invariant-loop
invariant-loop g l = Waits l.initial.pass l.fn.h l.fn.inc l.fn.read.line l.fn.read.reading l.pass
