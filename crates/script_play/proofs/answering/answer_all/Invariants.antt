use Rattle.std.proofs.Common.{◌≡◌, ◌≤◌, ◌-◌, length, None}
use Rattle.outside.specs.Seen.{sink_seen, source_seen}
use Rattle.line_cutter.specs.Cutting.{standing}
use Rattle.config_model.specs.Sections.{Sections}
use Rattle.book_history.specs.Entries.{History}
use Rattle.script_play.specs.Player.{PlayerStands}
use Rattle.script_play.specs.Streams.{input_limit}
use Rattle.script_play.proofs.InputLemmas.{InputSoFar}
use Rattle.script_play.proofs.answering.answer_all.Given as goal

-- what was read so far is answered, but for the line that isn't ended
abbrev pub invariant-pieces : goal.invariant-pieces
invariant-pieces g l =
    let source = g.S.Source in
    let sink = g.K.Sink in
    record {
      within : l.count ≤ input_limit;
      buffer : length l.buffer ≡ 65536;
      none : standing l.cutter ≡ None;
      reached : (cfg : Sections) (H : History) → PlayerStands cfg H l.fn.player → InputSoFar cfg H l.cutter l.player
          (source_seen source.given source.left source.ended source.faults l.fn.input)
          (source_seen source.given source.left source.ended source.faults l.input)
          (sink_seen sink.taken sink.faults l.fn.output) (sink_seen sink.taken sink.faults l.output) l.count;
    }

abbrev pub decreases-pieces : goal.decreases-pieces
decreases-pieces g l = input_limit - l.count
