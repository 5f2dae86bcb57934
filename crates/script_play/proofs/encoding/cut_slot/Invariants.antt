use Rattle.outside.specs.Seen.{sink_seen}
use Rattle.config_model.specs.Sections.{Sections}
use Rattle.book_history.specs.Entries.{History}
use Rattle.script_play.specs.Player.{PlayerStands}
use Rattle.script_play.proofs.RunLemmas.{CutSoFar}
use Rattle.script_play.proofs.encoding.cut_slot.Given as goal

-- a message came each time
abbrev pub invariant-cuts : goal.invariant-cuts
invariant-cuts g l = (cfg : Sections) (H : History) → PlayerStands cfg H l.fn.player → CutSoFar l.n cfg H l.player
    (sink_seen g.K.Sink.taken g.K.Sink.faults l.fn.output) (sink_seen g.K.Sink.taken g.K.Sink.faults l.output)
