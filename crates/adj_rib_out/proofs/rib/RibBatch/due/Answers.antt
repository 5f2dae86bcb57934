use Rattle.std.proofs.Common.{subst}
use Rattle.batch_cutter.specs.Grouped.{AreGrouped}
use Rattle.batch_cutter.specs.Items.{AreNumbered, front, item_told}
use Rattle.std.proofs.Common.{◌≡◌}
use Rattle.adj_rib_out.specs.State.{State}
use Rattle.adj_rib_out.specs.Told.{items_left}
use Rattle.adj_rib_out.proofs.DueLemmas.{item_due}
use Rattle.adj_rib_out.proofs.rib.RibBatch.due.Goals as goal

pub returns-clause-item : goal.returns-clause-item
returns-clause-item c = subst (λ (s : State). item_told c.due.result ≡ front (items_left s)) c.self.view_is
    (item_due c.self.inside.table c.due.result c.due.ensures.next)

pub returns-clause-numbered : goal.returns-clause-numbered
returns-clause-numbered c = subst (λ (s : State). AreNumbered (items_left s)) c.self.view_is c.due.ensures.numbered

pub returns-clause-grouped : goal.returns-clause-grouped
returns-clause-grouped c = subst (λ (s : State). AreGrouped (items_left s)) c.self.view_is c.due.ensures.grouped
