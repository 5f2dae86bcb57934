use Rattle.std.proofs.Common.{◌≤◌}
use Rattle.batch_cutter.proofs.tests.messages_of_a_batch_hold_as_many_prefixes_as_fit.Given as goal

abbrev pub invariant-loop-len : goal.invariant-loop-len
invariant-loop-len g l = 65535 ≤ l.out.room

abbrev pub invariant-loop-row : goal.invariant-loop-row
invariant-loop-row g l = 65535 ≤ l.out.room
