use Rattle.route_values.specs.Path.{AllFilled}
use Rattle.route_values.proofs.tests.path.Given as goal

abbrev pub invariant-segments : goal.invariant-segments
invariant-segments l = AllFilled l.segments.items
