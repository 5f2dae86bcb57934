use Rattle.std.proofs.Common.{take}
use Rattle.update_grammar.specs.Values.{path_text}
use Rattle.attr_codec.specs.Buffer.{Appended}
use Rattle.attr_codec.proofs.writing.path.put_segments.Given as goal

abbrev pub invariant-loop-segment : goal.invariant-loop-segment
invariant-loop-segment l = Appended l.fn.out l.out (path_text (take l.segment-index l.segments))
