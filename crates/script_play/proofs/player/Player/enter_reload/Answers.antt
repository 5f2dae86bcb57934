use Rattle.std.proofs.lemmas.Result.{err_from_is_err_and}
use Rattle.outside.specs.Seen.{sink_seen}
use Rattle.script_grammar.specs.Events.{Reload}
use Rattle.script_play.proofs.EnterLemmas.{enters_written, reload_stops}
use Rattle.script_play.proofs.player.Player.enter_reload.Goals as goal

pub returns-in_err-reload-clause-entered : goal.returns-in_err-reload-clause-entered
returns-in_err-reload-clause-entered g c = λ cfg H is.
    let e = err_from_is_err_and c.from_residual.result c.from_residual.ensures.1 in
    rw (e.1, e.2) (reload_stops (g.F.Files.content c.args.files.now) c.args.path.now c.args.self.now c.reload.new.self
    (g.F.Files.faults c.args.files.now) (g.F.Files.faults c.reload.new.files)
    (sink_seen g.K.Sink.taken g.K.Sink.faults c.args.output.now) c.in_err-reload.field-0.0
    c.in_err-reload.ensures.reloads cfg H is)

pub returns-clause-entered : goal.returns-clause-entered
returns-clause-entered g c = λ cfg H is.
    let puts = c.in_ok-reload.ensures.reloads in
    enters_written (g.F.Files.content c.args.files.now) cfg H (Reload c.args.path.now) c.reload.new.self
    (g.F.Files.faults c.args.files.now) (g.F.Files.faults c.reload.new.files) puts.1
    (sink_seen g.K.Sink.taken g.K.Sink.faults c.args.output.now)
    (sink_seen g.K.Sink.taken g.K.Sink.faults c.write.new.output) c.deref.result.now c.write.result
    (puts.0 cfg H is) c.deref.ensures.value c.write.ensures
