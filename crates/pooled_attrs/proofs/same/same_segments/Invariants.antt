use Rattle.std.proofs.Common.{◌≡◌, drop}
use Rattle.std.specs.Cmp.Lexicographic.{pointwise}
use Rattle.pooled_attrs.specs.Same.{same_segment}
use Rattle.pooled_attrs.proofs.same.same_segments.Given as goal

abbrev pub invariant-places : goal.invariant-places
invariant-places l = pointwise same_segment (drop l.place l.a) (drop l.place l.b) ≡ pointwise same_segment l.a l.b
