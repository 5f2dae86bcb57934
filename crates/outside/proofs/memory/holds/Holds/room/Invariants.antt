use Rattle.std.proofs.Common.{◌<◌}
use Rattle.outside.proofs.memory.holds.Holds.room.Given as goal

abbrev pub invariant-holds : goal.invariant-holds
invariant-holds l = 0 < l.room
