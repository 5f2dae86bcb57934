use Rattle.std.proofs.Common.{arith, ap, length}
use Rattle.std.proofs.lemmas.List.Folds.{length-flat_map-take}
use Rattle.update_grammar.specs.Values.{segment_text}
use Rattle.attr_codec.proofs.writing.path.put_segments.Goals as goal

pub put_segment-requires-clause-fits : goal.put_segment-requires-clause-fits
put_segment-requires-clause-fits c =
    let same = ap (λ s. length (segment_text s)) c.segment-item.is in
    omega (
      arith,
      same,
      length-flat_map-take segment_text c.args.segments.now c.loop-segment.segment-index
          c.segment-item.result (omega arith),
    )
