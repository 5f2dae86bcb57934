use Rattle.std.proofs.Common.{◌≡◌, ◌+◌, ◌-◌, false, sym, ap, ap₂, ◌∙◌, subst, arith}
use Rattle.std.proofs.lemmas.Grind.{common_steps}
use Rattle.linked_pending.specs.Listing.{Listing, has, without}
use Rattle.linked_pending.specs.Order.{nodes_at, IsOrder}
use Rattle.linked_pending.proofs.ListingLemmas.{listing, has-without, without_absent}
use Rattle.linked_pending.proofs.OrderLemmas.{nodes_at-without, absent_from_not, absent_above}
use Rattle.linked_pending.proofs.order.Order.remove.Goals as goal

pub invariant_of-self : goal.invariant_of-self
invariant_of-self c =
    let no_root : has 0 (without (c.args.node + 1) c.self.inside.chain.items) ≡ false =
    has-without 0 (c.args.node + 1) c.self.inside.chain.items ∙ grind (arith, common_steps, c.self.invariant.no_root) in
    subst IsOrder (sym c.remove.ensures) (record { no_root = no_root; counted = c.self.invariant.counted })

pub returns-then-node-room-clause-removed : goal.returns-then-node-room-clause-removed
returns-then-node-room-clause-removed c =
    ap (λ (chain : Listing). listing (chain.room - 1) (nodes_at chain.items)) c.remove.ensures
    ∙ ap₂ listing (ap (λ (order : Listing). order.room) c.self.view_is)
    (nodes_at-without c.args.node _ c.self.invariant.no_root ∙ ap (λ (order : Listing). without c.args.node order.items)
    c.self.view_is)

pub returns-then-node-room-clause-absent : goal.returns-then-node-room-clause-absent
returns-then-node-room-clause-absent c = λ none.
    ap (λ (chain : Listing). listing (chain.room - 1) (nodes_at chain.items)) c.remove.ensures
    ∙ ap₂ listing (ap (λ (order : Listing). order.room) c.self.view_is)
    (nodes_at-without c.args.node _ c.self.invariant.no_root ∙ ap (λ (order : Listing). without c.args.node order.items)
    c.self.view_is
    ∙ without_absent _ _ (absent_from_not _ _ none))

pub returns-else-node-room-clause-removed : goal.returns-else-node-room-clause-removed
returns-else-node-room-clause-removed c =
    let absent : has c.args.node c.args.self.now.items ≡ false =
    absent_above c.args.node _ _ (grind (arith, common_steps)) c.room.ensures.within in
    ap (listing c.args.self.now.room) (sym (without_absent _ _ absent))
