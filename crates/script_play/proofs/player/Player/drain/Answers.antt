use Rattle.std.proofs.Common.{◌++◌, ◌∙◌, sym, None}
use Rattle.std.proofs.lemmas.Result.{err_from_is_err_and}
use Rattle.outside.specs.Seen.{sink_seen}
use Rattle.script_play.proofs.DrainLemmas.{drained_all, drained_long, drained_more, drained_none, drained_part}
use Rattle.script_play.proofs.player.Player.drain.Goals as goal

pub cuts-init : goal.cuts-init
cuts-init g c = λ cfg H is.
    drained_none cfg H c.args.n c.args.self.now (sink_seen g.K.Sink.taken g.K.Sink.faults c.args.output.now) is

pub cuts-preserved : goal.cuts-preserved
cuts-preserved g c = λ cfg H is.
    let was = c.cuts.invariant cfg H is in
    drained_more None cfg H c.args.n c.cuts.self (sink_seen g.K.Sink.taken g.K.Sink.faults c.args.output.now)
    (sink_seen g.K.Sink.taken g.K.Sink.faults c.cuts.output) was c.write_cut.new.self
    (sink_seen g.K.Sink.taken g.K.Sink.faults c.write_cut.new.output) c.in_ok-given.given
    (sym c.is_message.ensures ∙ c.if-not-is_message.false)
    (c.in_ok-given.ensures 0 cfg (was.messages ++ H) was.stands)

pub returns-then-not-is_message : goal.returns-then-not-is_message
returns-then-not-is_message g c = λ content files cfg H is.
    let was = c.cuts.invariant cfg H is in
    drained_all content cfg H c.args.n c.cuts.self (sink_seen g.K.Sink.taken g.K.Sink.faults c.args.output.now)
    (sink_seen g.K.Sink.taken g.K.Sink.faults c.cuts.output) was c.write_cut.new.self
    (sink_seen g.K.Sink.taken g.K.Sink.faults c.write_cut.new.output) files c.in_ok-given.given
    (sym c.is_message.ensures ∙ c.if-not-is_message.true)
    (c.in_ok-given.ensures files cfg (was.messages ++ H) was.stands)

pub returns-in_err-given : goal.returns-in_err-given
returns-in_err-given g c = λ content files cfg H is.
    let was = c.cuts.invariant cfg H is in
    let e = err_from_is_err_and c.from_residual.result c.from_residual.ensures.1 in
    let left = c.in_err-given.ensures files cfg (was.messages ++ H) was.stands in
    rw (e.1, e.2) (drained_part content cfg H c.args.n c.cuts.self
    (sink_seen g.K.Sink.taken g.K.Sink.faults c.args.output.now)
    (sink_seen g.K.Sink.taken g.K.Sink.faults c.cuts.output) was c.write_cut.new.self
    (sink_seen g.K.Sink.taken g.K.Sink.faults c.write_cut.new.output) files c.in_err-given.field-0.0 left.0 left.1)

pub returns : goal.returns
returns g c = λ content files cfg H is.
    drained_long content cfg H c.args.n c.cuts.self (sink_seen g.K.Sink.taken g.K.Sink.faults c.args.output.now)
    (sink_seen g.K.Sink.taken g.K.Sink.faults c.cuts.output) (c.cuts.invariant cfg H is) files
