use Rattle.std.proofs.Common.{◌<◌, nat_eq, subst}
use Rattle.std.specs.Prelude.{All}
use Rattle.std.specs.List.{IsDistinct}
use Rattle.linked_pending.specs.Listing.{Listing}
use Rattle.linked_pending.proofs.ChainLemmas.{distinct_from_apart}
use Rattle.linked_pending.proofs.OrderLemmas.{apart-nodes_at, within-nodes_at}
use Rattle.linked_pending.proofs.order.Order.room.Goals as goal

pub returns-clause-distinct : goal.returns-clause-distinct
returns-clause-distinct c =
    subst (λ (order : Listing). IsDistinct nat_eq order.items) c.self.view_is
    (distinct_from_apart _ (apart-nodes_at _ c.self.invariant.no_root c.room.ensures.apart.1))

pub returns-clause-within : goal.returns-clause-within
returns-clause-within c =
    subst (λ (order : Listing). All (λ node. node < order.room) order.items) c.self.view_is
    (within-nodes_at _ _ c.self.invariant.no_root c.room.ensures.within)
