use Rattle.outside.specs.Seen.{sink_seen}
use Rattle.config_model.specs.Sections.{Sections}
use Rattle.book_history.specs.Entries.{History}
use Rattle.script_play.specs.Player.{PlayerStands}
use Rattle.script_play.proofs.RunLemmas.{TakenSoFar}
use Rattle.script_play.proofs.answering.take_all.Given as goal

-- as many replies came each time as are taken at once
abbrev pub invariant-takes : goal.invariant-takes
invariant-takes g l = (cfg : Sections) (H : History) → PlayerStands cfg H l.fn.player → TakenSoFar cfg H l.player
    (sink_seen g.K.Sink.taken g.K.Sink.faults l.fn.output) (sink_seen g.K.Sink.taken g.K.Sink.faults l.output)
