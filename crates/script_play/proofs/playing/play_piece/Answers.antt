use Rattle.std.proofs.Common.{arith, ◌∙◌, List, ℕ}
use Rattle.std.proofs.lemmas.Result.{err_from_is_err_and}
use Rattle.outside.specs.Seen.{sink_seen}
use Rattle.text_forms.proofs.CutLemmas.{lacks_from_all}
use Rattle.script_play.proofs.LentLemmas.{lent_on}
use Rattle.script_play.proofs.PieceLemmas.{front_all, front_long, front_lost, front_more, front_stopped}
use Rattle.script_play.proofs.playing.play_piece.Goals as goal

pub returns-in_err-play_ended-clause-plays : goal.returns-in_err-play_ended-clause-plays
returns-in_err-play_ended-clause-plays g c =
    let e = err_from_is_err_and c.from_residual.result c.from_residual.ensures.1 in
    rw (e.1, e.2)
    (front_stopped (g.F.Files.content c.args.files.now) (g.F.Files.content c.lines.files) c.args.piece.now
    c.lines.rest.now c.in-Some.part.now
    c.in-Some.behind.now c.args.place.now.held.items c.lines.place.held.items c.play_ended.new.place.held.items
    c.play_ended.new.place.held.items c.args.place.now.number c.lines.place.number c.play_ended.new.place.number
    c.play_ended.new.place.number c.args.player.now c.lines.player c.play_ended.new.player c.play_ended.new.player
    (g.F.Files.faults c.args.files.now) (g.F.Files.faults c.lines.files) (g.F.Files.faults c.play_ended.new.files)
    (sink_seen g.K.Sink.taken g.K.Sink.faults c.args.output.now)
    (sink_seen g.K.Sink.taken g.K.Sink.faults c.lines.output)
    (sink_seen g.K.Sink.taken g.K.Sink.faults c.play_ended.new.output) _ c.lines.invariant.played
    c.in-Some.ensures.found c.lines.invariant.content c.in_err-play_ended.ensures.plays)

pub lines-preserved : goal.lines-preserved
lines-preserved g c = record {
  played =
      front_more (g.F.Files.content c.args.files.now) (g.F.Files.content c.lines.files) c.args.piece.now
      c.lines.rest.now c.in-Some.part.now
      c.in-Some.behind.now c.args.place.now.held.items c.lines.place.held.items c.play_ended.new.place.held.items
      c.args.place.now.number c.lines.place.number c.play_ended.new.place.number c.args.player.now c.lines.player
      c.play_ended.new.player (g.F.Files.faults c.args.files.now) (g.F.Files.faults c.lines.files)
      (g.F.Files.faults c.play_ended.new.files) (sink_seen g.K.Sink.taken g.K.Sink.faults c.args.output.now)
      (sink_seen g.K.Sink.taken g.K.Sink.faults c.lines.output)
      (sink_seen g.K.Sink.taken g.K.Sink.faults c.play_ended.new.output) c.lines.invariant.played
      c.in-Some.ensures.found c.in_ok-play_ended.ensures.count c.lines.invariant.content
      c.in_ok-play_ended.ensures.plays;
  content = c.in_ok-play_ended.ensures.content ∙ c.lines.invariant.content;
  back = lent_on _ _ _ c.lines.invariant.back c.in_ok-play_ended.ensures.back;
}

pub returns-in_err-extend_from_slice-clause-plays : goal.returns-in_err-extend_from_slice-clause-plays
returns-in_err-extend_from_slice-clause-plays g c =
    let e = err_from_is_err_and c.from_residual-in_err-extend_from_slice.result
    c.from_residual-in_err-extend_from_slice.ensures.1 in
    rw (e.1, e.2)
    (front_lost (g.F.Files.content c.args.files.now) c.args.piece.now c.lines.rest.now c.args.place.now.held.items
    c.lines.place.held.items c.lines.place.held.items c.args.place.now.number c.lines.place.number c.lines.place.number
    c.args.player.now c.lines.player c.lines.player (g.F.Files.faults c.args.files.now)
    (g.F.Files.faults c.lines.files) (sink_seen g.K.Sink.taken g.K.Sink.faults c.args.output.now)
    (sink_seen g.K.Sink.taken g.K.Sink.faults c.lines.output) c.lines.invariant.played)

pub returns-then-len-gt-MAX_SCRIPT_LINE-clause-plays : goal.returns-then-len-gt-MAX_SCRIPT_LINE-clause-plays
returns-then-len-gt-MAX_SCRIPT_LINE-clause-plays g c =
    let held : List ℕ = c.extend_from_slice.new.self.items in
    front_long (g.F.Files.content c.args.files.now) c.args.piece.now c.args.place.now.held.items held held
    c.args.place.now.number c.lines.place.number c.lines.place.number c.args.player.now c.lines.player c.lines.player
    (g.F.Files.faults c.args.files.now) (g.F.Files.faults c.lines.files)
    (sink_seen g.K.Sink.taken g.K.Sink.faults c.args.output.now)
    (sink_seen g.K.Sink.taken g.K.Sink.faults c.lines.output)
    (front_all (g.F.Files.content c.args.files.now) c.args.piece.now c.lines.rest.now c.args.place.now.held.items
    c.lines.place.held.items held c.args.place.now.number c.lines.place.number c.args.player.now c.lines.player
    (g.F.Files.faults c.args.files.now) (g.F.Files.faults c.lines.files)
    (sink_seen g.K.Sink.taken g.K.Sink.faults c.args.output.now)
    (sink_seen g.K.Sink.taken g.K.Sink.faults c.lines.output) c.lines.invariant.played
    (lacks_from_all 10 _ c.in_default.ensures.none) c.in_ok-extend_from_slice.ensures.items)
    (omega (arith, c.if-len-gt-MAX_SCRIPT_LINE.true, c.len.ensures, c.extend_from_slice.new.self.ok.0))

pub returns-clause-plays : goal.returns-clause-plays
returns-clause-plays g c =
    front_all (g.F.Files.content c.args.files.now) c.args.piece.now c.lines.rest.now c.args.place.now.held.items
    c.lines.place.held.items _ c.args.place.now.number c.lines.place.number
    c.args.player.now c.lines.player (g.F.Files.faults c.args.files.now)
    (g.F.Files.faults c.lines.files) (sink_seen g.K.Sink.taken g.K.Sink.faults c.args.output.now)
    (sink_seen g.K.Sink.taken g.K.Sink.faults c.lines.output) c.lines.invariant.played
    (lacks_from_all 10 _ c.in_default.ensures.none) c.in_ok-extend_from_slice.ensures.items
