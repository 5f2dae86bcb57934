use Rattle.std.proofs.Common.{◌≡◌, take}
use Rattle.config_model.specs.Plan.{peers_with}
use Rattle.config_model.proofs.plan.peers_with.Given as goal

abbrev pub invariant-neighbors : goal.invariant-neighbors
invariant-neighbors l = l.peers ≡ peers_with l.standing l.others (take l.neighbor-index l.neighbors)
