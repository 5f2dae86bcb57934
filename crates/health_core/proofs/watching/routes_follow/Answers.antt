use Rattle.health_core.proofs.WatchLemmas.{follow}
use Rattle.health_core.proofs.watching.routes_follow.Goals as goal

pub returns : goal.returns
returns c = follow
