use Rattle.book_gate_many.specs.Adding.{Adds}
use Rattle.book_gate_many.proofs.adding.add.Given as goal

abbrev pub invariant-loop-i : goal.invariant-loop-i
invariant-loop-i g l = Adds l.i l.initial.pass l.pass
