use Rattle.book_gate_many.specs.Many.{IsAllJoined}
use Rattle.book_gate_many.proofs.many.join_many.Given as goal

abbrev pub invariant-loop-other : goal.invariant-loop-other
invariant-loop-other g l = IsAllJoined g.T.Held.law l.initial.pass l.yielded l.pass
