use Rattle.std.proofs.Common.{◌≡◌, take}
use Rattle.std.specs.Prelude.{fold}
use Rattle.std.specs.List.{flat_map}
use Rattle.pooled_attrs.specs.Same.{segment_input}
use Rattle.pooled_attrs.proofs.feed.feed_segments.Given as goal

abbrev pub invariant-segments : goal.invariant-segments
invariant-segments g l = l.state ≡ fold g.H.Hasher.write l.initial.state (flat_map segment_input
    (take l.segment-index l.segments))
