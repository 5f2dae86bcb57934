use Rattle.std.proofs.Common.{◌≡◌}
use Rattle.helper_worker.proofs.visiting.take_back.Given as goal

-- nothing came yet
abbrev pub invariant-loop : goal.invariant-loop
invariant-loop g l = l.pass ≡ l.initial.pass
