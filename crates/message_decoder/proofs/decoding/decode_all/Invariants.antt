use Rattle.std.proofs.Common.{◌≡◌, ◌≤◌, ◌-◌, length}
use Rattle.outside.specs.Seen.{sink_seen, source_seen}
use Rattle.message_decoder.proofs.StreamLemmas.{Reached}
use Rattle.message_decoder.proofs.decoding.decode_all.Given as goal

-- what was read so far is answered, but for the line that isn't ended
abbrev pub invariant-pieces : goal.invariant-pieces
invariant-pieces g l =
    let source = g.S.Source in
    let sink = g.K.Sink in
    record {
      within : l.count ≤ l.limit;
      buffer : length l.buffer ≡ 65536;
      reached : Reached l.caps (source_seen source.given source.left source.ended source.faults l.fn.input)
          (source_seen source.given source.left source.ended source.faults l.input)
          (sink_seen sink.taken sink.faults l.fn.output) (sink_seen sink.taken sink.faults l.output)
          l.place.held.items l.place.number l.count;
    }

abbrev pub decreases-pieces : goal.decreases-pieces
decreases-pieces g l = l.limit - l.count
