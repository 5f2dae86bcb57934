use Rattle.std.proofs.Common.{subst}
use Rattle.std.specs.List.{AllByRecursion}
use Rattle.std.proofs.lemmas.List.{take_all}
use Rattle.route_values.specs.declared.path.Segment.{Segment}
use Rattle.peer_book.specs.Known.{AreNumbers}
use Rattle.peer_book.proofs.KnownLemmas.{all_next}
use Rattle.peer_book.proofs.known.known_segments.Goals as goal

pub segments-init : goal.segments-init
segments-init c = tt

pub segments-preserved : goal.segments-preserved
segments-preserved c =
    all_next (λ (segment : Segment). AreNumbers segment.numbers) c.args.segments.now c.segments.segment-index
    c.segment-item.result c.segments-test.true c.segments.invariant
    (subst (λ (segment : Segment). AreNumbers segment.numbers) c.segment-item.is
    (subst AreNumbers c.as_slice.ensures c.known_numbers.ensures))

pub returns : goal.returns
returns c =
    subst (AllByRecursion (λ (segment : Segment). AreNumbers segment.numbers))
    (take_all c.segments.segment-index c.args.segments.now c.segments-test.false) c.segments.invariant
