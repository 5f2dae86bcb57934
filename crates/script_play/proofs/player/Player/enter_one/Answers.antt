use Rattle.std.proofs.Common.{refl}
use Rattle.outside.specs.Seen.{sink_seen}
use Rattle.script_grammar.specs.Events.{event_told}
use Rattle.script_play.proofs.EnterLemmas.{enters_failed, enters_written}
use Rattle.script_play.proofs.player.Player.enter_one.Goals as goal

pub returns-in_err-ask : goal.returns-in_err-ask
returns-in_err-ask g c = λ content files cfg H is.
    let known = c.requires.known cfg H is in
    enters_failed content cfg H (event_told c.args.event.now) c.ask.new.self files files refl
    (sink_seen g.K.Sink.taken g.K.Sink.faults c.args.output.now) c.from_residual.result c.from_residual.ensures.1 known
    (c.in_err-ask.ensures content cfg H is known)

pub returns : goal.returns
returns g c = λ content files cfg H is.
    enters_written content cfg H (event_told c.args.event.now) c.ask.new.self files files refl
    (sink_seen g.K.Sink.taken g.K.Sink.faults c.args.output.now)
    (sink_seen g.K.Sink.taken g.K.Sink.faults c.write.new.output) c.deref.result.now c.write.result
    (c.in_ok-ask.ensures content cfg H is (c.requires.known cfg H is)) c.deref.ensures.value c.write.ensures
