use Rattle.std.proofs.Common.{◌≡◌, length}
use Rattle.outside.specs.Lent.{LendsNone}
use Rattle.outside.specs.Seen.{sink_seen}
use Rattle.script_play.proofs.PieceLemmas.{PlayedFront}
use Rattle.script_play.proofs.playing.play_piece.Given as goal

-- the lines that end in front of the rest were played
abbrev pub invariant-lines : goal.invariant-lines
invariant-lines g l =
    let files = g.F.Files in
    let sink = g.K.Sink in
    record {
      played : PlayedFront (files.content l.fn.files) l.fn.piece l.rest l.fn.place.held.items l.place.held.items
          l.fn.place.number l.place.number l.fn.player l.player (files.faults l.fn.files) (files.faults l.files)
          (sink_seen sink.taken sink.faults l.fn.output) (sink_seen sink.taken sink.faults l.output);
      content : files.content l.files ≡ files.content l.fn.files;
      back : LendsNone (files.lent l.fn.files) (files.lent l.files);
    }

abbrev pub decreases-lines : goal.decreases-lines
decreases-lines g l = length l.rest
