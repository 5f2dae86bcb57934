use Rattle.std.proofs.Common.{◌≡◌, ◌≤◌, ◌-◌, length}
use Rattle.outside.specs.Lent.{LendsNone}
use Rattle.outside.specs.Seen.{sink_seen, source_seen}
use Rattle.script_play.specs.Streams.{input_limit}
use Rattle.script_play.proofs.StreamLemmas.{Reached}
use Rattle.script_play.proofs.playing.play_all.Given as goal

-- what was read so far is played, but for the line that isn't ended
abbrev pub invariant-pieces : goal.invariant-pieces
invariant-pieces g l =
    let files = g.F.Files in
    let source = g.S.Source in
    let sink = g.K.Sink in
    record {
      within : l.count ≤ input_limit;
      buffer : length l.buffer ≡ 65536;
      reached : Reached (files.content l.fn.files) l.fn.config
          (source_seen source.given source.left source.ended source.faults l.fn.input)
          (source_seen source.given source.left source.ended source.faults l.input)
          (sink_seen sink.taken sink.faults l.fn.output) (sink_seen sink.taken sink.faults l.output)
          (files.faults l.fn.files) (files.faults l.files) l.player l.place.held.items l.place.number l.count;
      content : files.content l.files ≡ files.content l.fn.files;
      back : LendsNone (files.lent l.fn.files) (files.lent l.files);
    }

abbrev pub decreases-pieces : goal.decreases-pieces
decreases-pieces g l = input_limit - l.count
