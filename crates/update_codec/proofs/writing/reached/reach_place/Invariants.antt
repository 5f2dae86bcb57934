use Rattle.std.proofs.Common.{drop, length}
use Rattle.update_codec.proofs.WalkLemmas.{IsLeft}
use Rattle.update_codec.proofs.writing.reached.reach_place.Given as goal

abbrev pub invariant-loop-rest : goal.invariant-loop-rest
invariant-loop-rest l = IsLeft (drop 23 l.bytes) l.rest

abbrev pub decreases-loop-rest : goal.decreases-loop-rest
decreases-loop-rest l = length l.rest
