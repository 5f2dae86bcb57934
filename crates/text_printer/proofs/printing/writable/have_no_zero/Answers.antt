use Rattle.std.proofs.Common.{List, ℕ, refl, subst}
use Rattle.std.specs.List.{AllByRecursion}
use Rattle.route_values.specs.declared.path.Segment.{Segment}
use Rattle.text_printer.specs.Printable.{IsAs, HasNoZero}
use Rattle.text_printer.proofs.WritableLemmas.{all_more, all_taken}
use Rattle.text_printer.proofs.printing.writable.have_no_zero.Goals as goal

pub segments-preserved : goal.segments-preserved
segments-preserved c =
    let one : HasNoZero c.segment-item.result =
    subst (λ (numbers : List ℕ). AllByRecursion IsAs numbers) c.as_slice.ensures (c.if-not-has_no_zero.ensures.0 refl)
    in
    all_more HasNoZero c.args.segments.now c.segments.segment-index c.segment-item.result c.segments-test.true
    c.segments.invariant (subst (λ (segment : Segment). HasNoZero segment) c.segment-item.is one)

pub returns : goal.returns
returns c = (
  (λ held. all_taken HasNoZero c.args.segments.now c.segments.segment-index c.segments-test.false
      c.segments.invariant),
  (λ all. refl),
)
