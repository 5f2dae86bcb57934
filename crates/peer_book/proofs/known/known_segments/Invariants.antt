use Rattle.std.proofs.Common.{take}
use Rattle.std.specs.List.{AllByRecursion}
use Rattle.route_values.specs.declared.path.Segment.{Segment}
use Rattle.peer_book.specs.Known.{AreNumbers}
use Rattle.peer_book.proofs.known.known_segments.Given as goal

abbrev pub invariant-segments : goal.invariant-segments
invariant-segments l =
    AllByRecursion (λ (segment : Segment). AreNumbers segment.numbers) (take l.segment-index l.segments)
