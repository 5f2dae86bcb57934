use Rattle.std.proofs.Common.{◌≡◌, ◌≤◌, ◌-◌, length, None}
use Rattle.outside.specs.Seen.{sink_seen, source_seen}
use Rattle.line_cutter.specs.Cutting.{standing}
use Rattle.exa_top.specs.Top.{input_limit}
use Rattle.exa_top.proofs.InputLemmas.{ToldSoFar}
use Rattle.exa_top.proofs.parsing.parse.Given as goal

-- what was read so far is told, but for the line that isn't ended
abbrev pub invariant-pieces : goal.invariant-pieces
invariant-pieces g l =
    let source = g.S.Source in
    let sink = g.K.Sink in
    record {
      within : l.count ≤ input_limit;
      buffer : length l.buffer ≡ 65536;
      none : standing l.cutter ≡ None;
      told : ToldSoFar l.cutter (source_seen source.given source.left source.ended source.faults l.fn.input)
          (source_seen source.given source.left source.ended source.faults l.input)
          (sink_seen sink.taken sink.faults l.fn.output) (sink_seen sink.taken sink.faults l.output) l.count;
    }

abbrev pub decreases-pieces : goal.decreases-pieces
decreases-pieces g l = input_limit - l.count
