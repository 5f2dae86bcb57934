use Rattle.std.proofs.Common.{◌≡◌}
use Rattle.update_codec.specs.Matters.{told_of}
use Rattle.update_codec.proofs.MattersLemmas.{with_attrs}
use Rattle.update_codec.proofs.reading.matters.Told.of.Given as goal

abbrev pub invariant-loop-attr : goal.invariant-loop-attr
invariant-loop-attr l = with_attrs l.rest.items l.told ≡ told_of l.fn.said

abbrev pub decreases-loop-attr : goal.decreases-loop-attr
decreases-loop-attr l = goal.left-loop-attr l
