use Rattle.std.proofs.Common.{take}
use Rattle.std.specs.List.{flat_map}
use Rattle.text_printer.specs.Items.{segment_tokens}
use Rattle.text_printer.specs.Spaced.{GoesOn}
use Rattle.text_printer.proofs.printing.path.put_segments.Given as goal

abbrev pub invariant-loop-segment : goal.invariant-loop-segment
invariant-loop-segment l =
    GoesOn (flat_map segment_tokens (take l.segment-index l.segments)) l.fn.text.items l.text.items
