use Rattle.std.proofs.Common.{◌≤◌}
use Rattle.update_codec.specs.Open.{IsOpenGone}
use Rattle.update_codec.proofs.tests.opened.withdraw_more.Given as goal

abbrev pub invariant-loop-key : goal.invariant-loop-key
invariant-loop-key l = record { is_open : IsOpenGone l.caps l.family l.out.bytes; few : l.count ≤ l.key-index }
