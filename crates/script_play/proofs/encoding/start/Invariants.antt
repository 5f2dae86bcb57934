use Rattle.std.proofs.Common.{◌≡◌, List, []}
use Rattle.config_model.specs.declared.sections.Neighbor.{Neighbor}
use Rattle.config_model.specs.Sections.{Sections}
use Rattle.script_play.specs.Encoding.{settings_of}
use Rattle.script_play.specs.Player.{PlayerStands}
use Rattle.script_play.proofs.RaisedLemmas.{RaisedSoFar}
use Rattle.script_play.proofs.encoding.start.Given as goal

abbrev pub invariant-slots : goal.invariant-slots
invariant-slots l = (cfg : Sections) (neighbors : List Neighbor) → PlayerStands cfg [] l.fn.player
    → l.settings ≡ settings_of neighbors → RaisedSoFar cfg neighbors l.n l.player
