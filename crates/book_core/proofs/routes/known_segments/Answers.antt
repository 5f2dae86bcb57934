use Rattle.std.proofs.Common.{subst}
use Rattle.std.specs.List.{AllByRecursion}
use Rattle.std.proofs.lemmas.List.{take_all}
use Rattle.route_values.specs.declared.path.Segment.{Segment}
use Rattle.update_grammar.specs.Values.{IsNumber}
use Rattle.peer_book.proofs.KnownLemmas.{all_next}
use Rattle.book_core.proofs.RouteLemmas.{all_filled}
use Rattle.book_core.proofs.routes.known_segments.Goals as goal

pub segments-init : goal.segments-init
segments-init c = tt

pub segments-preserved : goal.segments-preserved
segments-preserved c =
    all_next (λ (segment : Segment). AllByRecursion IsNumber segment.numbers) c.segments-segments.result.now
    c.segments.segment-index c.segment-item.result c.segments-test.true c.segments.invariant
    (subst (λ (segment : Segment). AllByRecursion IsNumber segment.numbers) c.segment-item.is c.known_segment.ensures)

pub returns : goal.returns
returns c =
    all_filled c.args.path.now c.segments-segments.ensures.filled
    (subst (AllByRecursion (λ (segment : Segment). AllByRecursion IsNumber segment.numbers))
    c.segments-segments.ensures.value
    (subst (AllByRecursion (λ (segment : Segment). AllByRecursion IsNumber segment.numbers))
    (take_all c.segments.segment-index c.segments-segments.result.now c.segments-test.false) c.segments.invariant))
