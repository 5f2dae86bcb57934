use Rattle.outside.specs.Seen.{sink_seen}
use Rattle.config_model.specs.Sections.{Sections}
use Rattle.book_history.specs.Entries.{History}
use Rattle.script_play.specs.Player.{PlayerStands}
use Rattle.script_play.proofs.DrainLemmas.{Drained}
use Rattle.script_play.proofs.player.Player.drain.Given as goal

abbrev pub invariant-cuts : goal.invariant-cuts
invariant-cuts g l = (cfg : Sections) (H : History) → PlayerStands cfg H l.fn.self
    → Drained cfg H l.n l.self (sink_seen g.K.Sink.taken g.K.Sink.faults l.fn.output)
    (sink_seen g.K.Sink.taken g.K.Sink.faults l.output)
