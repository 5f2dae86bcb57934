use Rattle.std.proofs.Common.{refl, sym, subst}
use Rattle.outside.specs.Seen.{sink_seen}
use Rattle.script_grammar.specs.declared.event.Event.{Event}
use Rattle.script_grammar.specs.Events.{event_told}
use Rattle.script_play.specs.Entering.{Enters}
use Rattle.script_play.proofs.LentLemmas.{lent_same}
use Rattle.script_play.proofs.player.Player.enter.Goals as goal

pub returns-in-Drain-clause-entered : goal.returns-in-Drain-clause-entered
returns-in-Drain-clause-entered g c = λ cfg H is.
    subst (λ (event : Event). Enters (g.F.Files.content c.args.files.now) cfg H (event_told event) c.drain.new.self
    (g.F.Files.faults c.args.files.now) (g.F.Files.faults c.args.files.now)
    (sink_seen g.K.Sink.taken g.K.Sink.faults c.args.output.now)
    (sink_seen g.K.Sink.taken g.K.Sink.faults c.drain.new.output) c.drain.result) (sym c.in-Drain.is)
    (c.drain.ensures (g.F.Files.content c.args.files.now) (g.F.Files.faults c.args.files.now) cfg H is)

pub returns-in_default : goal.returns-in_default
returns-in_default g c = record {
  entered = c.enter_one.ensures (g.F.Files.content c.args.files.now) (g.F.Files.faults c.args.files.now);
  content = refl;
  back = lent_same (g.F.Files.lent c.args.files.now);
}
