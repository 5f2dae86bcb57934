use Rattle.std.proofs.Common.{◌≡◌}
use Rattle.book_rows.proofs.tests.gate.takes.Given as goal

-- The pass stays one of its gate
abbrev pub invariant-times : goal.invariant-times
invariant-times g l = l.pass.gate ≡ l.initial.pass.gate
