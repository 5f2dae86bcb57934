use Rattle.std.proofs.Common.{◌≡◌, drop}
use Rattle.config_model.specs.Checked.{first_unknown_of}
use Rattle.config_model.proofs.config.first_unknown.Given as goal

abbrev pub invariant-neighbors : goal.invariant-neighbors
invariant-neighbors l =
    first_unknown_of l.processes l.neighbors ≡ first_unknown_of l.processes (drop l.neighbor-index l.neighbors)
