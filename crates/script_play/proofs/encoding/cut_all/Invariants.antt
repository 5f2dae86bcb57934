use Rattle.std.proofs.Common.{◌≡◌, List, length}
use Rattle.outside.specs.Seen.{sink_seen}
use Rattle.config_model.specs.declared.sections.Neighbor.{Neighbor}
use Rattle.config_model.specs.Sections.{Sections}
use Rattle.book_history.specs.Entries.{History}
use Rattle.script_play.specs.Player.{PlayerStands}
use Rattle.script_play.proofs.RaisedLemmas.{SlotsCut}
use Rattle.script_play.proofs.encoding.cut_all.Given as goal

-- the messages of the first slots were cut
abbrev pub invariant-slots : goal.invariant-slots
invariant-slots g l = (cfg : Sections) (H : History) (neighbors : List Neighbor) → PlayerStands cfg H l.fn.player
    → length neighbors ≡ l.count → SlotsCut cfg H neighbors l.n l.player
    (sink_seen g.K.Sink.taken g.K.Sink.faults l.fn.output) (sink_seen g.K.Sink.taken g.K.Sink.faults l.output)
