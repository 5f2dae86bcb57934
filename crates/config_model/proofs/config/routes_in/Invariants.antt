use Rattle.std.proofs.Common.{◌≡◌, take}
use Rattle.config_model.specs.Sections.{routes_in}
use Rattle.config_model.proofs.config.routes_in.Given as goal

abbrev pub invariant-neighbors : goal.invariant-neighbors
invariant-neighbors l = l.routes ≡ routes_in (take l.neighbor-index l.neighbors)
