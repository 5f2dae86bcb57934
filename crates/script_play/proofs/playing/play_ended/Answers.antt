use Rattle.std.proofs.Common.{◌+◌, ◌++◌, List, ℕ, Ok, Err, subst, sym}
use Rattle.std.proofs.lemmas.Result.{err_from_is_err_and}
use Rattle.outside.specs.Seen.{sink_seen}
use Rattle.answer_texts.specs.Shown.{shown}
use Rattle.script_play.specs.Streams.{CameTo, ended}
use Rattle.script_play.proofs.PlayedLemmas.{ended_plays, lost_piece}
use Rattle.script_play.proofs.playing.play_ended.Goals as goal

pub returns-in_err-extend_from_slice-clause-plays : goal.returns-in_err-extend_from_slice-clause-plays
returns-in_err-extend_from_slice-clause-plays g c =
    let e = err_from_is_err_and c.from_residual.result c.from_residual.ensures.1 in
    λ cfg bytes opened start came.
    rw (e.1, e.2)
    (lost_piece (g.F.Files.content c.args.files.now) cfg bytes c.args.place.now.held.items (ended c.args.part.now)
    c.args.place.now.held.items c.args.place.now.number c.args.place.now.number c.args.player.now c.args.player.now
    opened (g.F.Files.faults c.args.files.now) start
    (sink_seen g.K.Sink.taken g.K.Sink.faults c.args.output.now) came)

pub returns-in_err-play_line-clause-plays : goal.returns-in_err-play_line-clause-plays
returns-in_err-play_line-clause-plays g c =
    let e = err_from_is_err_and c.from_residual-in_err-play_line.result c.from_residual-in_err-play_line.ensures.1 in
    λ cfg bytes opened start came.
    rw (e.1, e.2)
    (ended_plays (g.F.Files.content c.args.files.now) cfg c.histories_go_on.ensures.scripts
    (c.texts_follow.ensures shown) bytes c.args.place.now.held.items c.args.part.now
    c.extend_from_slice.new.self.items c.deref.result.now
    c.args.place.now.number c.args.player.now c.play_line.new.player opened (g.F.Files.faults c.args.files.now)
    (g.F.Files.faults c.play_line.new.files) start (sink_seen g.K.Sink.taken g.K.Sink.faults c.args.output.now)
    (sink_seen g.K.Sink.taken g.K.Sink.faults c.play_line.new.output) (Err _)
    came c.requires.no_feed c.deref.ensures.value c.in_ok-extend_from_slice.ensures.items
    c.in_err-play_line.ensures.plays)

pub returns-clause-plays : goal.returns-clause-plays
returns-clause-plays g c =
    let sink = sink_seen g.K.Sink.taken g.K.Sink.faults c.args.output.now in
    let sink' = sink_seen g.K.Sink.taken g.K.Sink.faults c.play_line.new.output in
    let content = g.F.Files.content c.args.files.now in
    let files' = g.F.Files.faults c.play_line.new.files in
    λ cfg bytes opened start came.
    subst (λ (held : List ℕ). CameTo content cfg (bytes ++ ended c.args.part.now) held
    (c.args.place.now.number + 1) c.play_line.new.player opened files' start sink')
    (sym c.clear.ensures.items)
    (ended_plays content cfg c.histories_go_on.ensures.scripts
    (c.texts_follow.ensures shown) bytes c.args.place.now.held.items c.args.part.now
    c.extend_from_slice.new.self.items c.deref.result.now
    c.args.place.now.number c.args.player.now c.play_line.new.player opened (g.F.Files.faults c.args.files.now)
    files' start sink sink' (Ok tt)
    came c.requires.no_feed c.deref.ensures.value c.in_ok-extend_from_slice.ensures.items
    c.in_ok-play_line.ensures.plays)
