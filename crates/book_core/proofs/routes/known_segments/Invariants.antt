use Rattle.std.proofs.Common.{take}
use Rattle.std.specs.List.{AllByRecursion}
use Rattle.route_values.specs.declared.path.Segment.{Segment}
use Rattle.update_grammar.specs.Values.{IsNumber}
use Rattle.book_core.proofs.routes.known_segments.Given as goal

abbrev pub invariant-segments : goal.invariant-segments
invariant-segments l =
    AllByRecursion (λ (segment : Segment). AllByRecursion IsNumber segment.numbers) (take l.segment-index l.segments)
