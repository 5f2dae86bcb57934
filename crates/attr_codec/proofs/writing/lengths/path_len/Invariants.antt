use Rattle.std.proofs.Common.{◌≡◌, ◌-◌, ◌^◌, min, take}
use Rattle.attr_codec.specs.Sizes.{path_size}
use Rattle.attr_codec.proofs.writing.lengths.path_len.Given as goal

abbrev pub invariant-loop-segment : goal.invariant-loop-segment
invariant-loop-segment l = l.total ≡ min (path_size (take l.segment-index l.segment-items)) (2 ^ 64 - 1)
