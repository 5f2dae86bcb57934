use Rattle.std.proofs.Common.{◌≡◌, ◌<◌, ◌∙◌, length, sym, arith}
use Rattle.std.proofs.lemmas.Bool.{eqb-false, eqb-true}
use Rattle.outside.specs.Seen.{sink_seen}
use Rattle.answer_texts.specs.Shown.{shown}
use Rattle.script_play.proofs.PlayedLemmas.{last_plays, no_elements, none_last}
use Rattle.script_play.proofs.playing.play_last.Goals as goal

pub returns-then-is_empty-clause-plays : goal.returns-then-is_empty-clause-plays
returns-then-is_empty-clause-plays g c =
    let none = eqb-true _ 0 (sym c.is_empty.ensures ∙ c.if-is_empty.true) in
    let no_bytes : length c.args.place.now.held.items ≡ 0 = omega (arith, none, c.args.place.now.held.ok.0) in
    λ cfg bytes opened start came.
    none_last (g.F.Files.content c.args.files.now) cfg bytes c.args.place.now.held.items c.args.place.now.number
    c.args.player.now opened (g.F.Files.faults c.args.files.now) start
    (sink_seen g.K.Sink.taken g.K.Sink.faults c.args.output.now) came
    (no_elements c.args.place.now.held.items no_bytes)

pub returns-clause-plays : goal.returns-clause-plays
returns-clause-plays g c =
    let some = eqb-false _ 0 (sym c.is_empty.ensures ∙ c.if-is_empty.false) in
    let bytes_there : 0 < length c.args.place.now.held.items = omega (arith, some, c.args.place.now.held.ok.0) in
    λ cfg bytes opened start came.
    last_plays (g.F.Files.content c.args.files.now) cfg c.histories_go_on.ensures.scripts
    (c.texts_follow.ensures shown) bytes c.args.place.now.held.items c.deref.result.now
    c.args.place.now.number c.args.player.now c.play_line.new.player opened (g.F.Files.faults c.args.files.now)
    (g.F.Files.faults c.play_line.new.files) start (sink_seen g.K.Sink.taken g.K.Sink.faults c.args.output.now)
    (sink_seen g.K.Sink.taken g.K.Sink.faults c.play_line.new.output) c.play_line.result came bytes_there
    c.deref.ensures.value c.play_line.ensures.plays
