use Rattle.std.proofs.Common.{◌≤◌}
use Rattle.update_codec.specs.Open.{IsOpenHere}
use Rattle.update_codec.proofs.tests.opened.announce_more.Given as goal

abbrev pub invariant-loop-key : goal.invariant-loop-key
invariant-loop-key l = record { is_open : IsOpenHere l.caps l.family l.out.bytes; few : l.count ≤ l.key-index }
