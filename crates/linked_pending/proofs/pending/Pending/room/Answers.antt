use Rattle.std.proofs.Common.{subst}
use Rattle.linked_pending.specs.Pending.{IsOrderly}
use Rattle.linked_pending.proofs.FrontLemmas.{orderly}
use Rattle.linked_pending.proofs.pending.Pending.room.Goals as goal

pub returns-clause-orderly : goal.returns-clause-orderly
returns-clause-orderly c = subst IsOrderly c.self.view_is (orderly _ _ _ c.self.invariant)
