use Rattle.std.proofs.Common.{◌≡◌, take}
use Rattle.route_values.proofs.path.AsPath.copy.Given as goal

abbrev pub invariant-segments : goal.invariant-segments
invariant-segments l = l.segments.items ≡ take l.segment-index l.segment-items
