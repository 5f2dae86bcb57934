use Rattle.std.proofs.Common.{All}
use Rattle.attr_codec.specs.Sizes.{IsShort}
use Rattle.route_values.specs.Path.{AllFilled}
use Rattle.update_codec.proofs.tests.values.singles.Given as goal

abbrev pub invariant-loop : goal.invariant-loop
invariant-loop l = record { short : All IsShort l.segments.items; filled : AllFilled l.segments.items }
