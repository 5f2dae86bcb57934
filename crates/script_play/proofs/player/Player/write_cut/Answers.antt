use Rattle.std.proofs.Common.{◌∙◌}
use Rattle.outside.specs.Seen.{sink_seen}
use Rattle.script_play.proofs.DrainLemmas.{cut_unput, cut_written}
use Rattle.script_play.proofs.player.Player.write_cut.Goals as goal

pub returns-in_err-put_cut : goal.returns-in_err-put_cut
returns-in_err-put_cut g c =
    cut_unput c.args.self.now c.cut_next-given.new.self c.put_cut.new.self c.args.n
    c.cut_next-given.new.self.message.bytes c.cut_next-given.result c.cut_next-given.ensures c.put_cut.ensures.stands
    (sink_seen g.K.Sink.taken g.K.Sink.faults c.args.output.now) c.from_residual.result c.from_residual.ensures.1

pub returns : goal.returns
returns g c =
    cut_written c.args.self.now c.cut_next-given.new.self c.put_cut.new.self c.args.n
    c.cut_next-given.new.self.message.bytes c.cut_next-given.result c.cut_next-given.ensures c.put_cut.ensures.stands
    c.deref.result.now (sink_seen g.K.Sink.taken g.K.Sink.faults c.args.output.now)
    (sink_seen g.K.Sink.taken g.K.Sink.faults c.write.new.output)
    (c.deref.ensures.value ∙ c.in_ok-put_cut.ensures.text) c.in_ok-write.ensures
