use Rattle.std.proofs.Common.{◌≡◌, ◌+◌, ◌-◌, ◌++◌, ◌∷◌, [], false, sym, ap, ap₂, ◌∙◌, subst, arith}
use Rattle.std.proofs.lemmas.Grind.{common_steps}
use Rattle.linked_pending.specs.Listing.{Listing, has, put_before}
use Rattle.linked_pending.specs.Order.{nodes_at, IsOrder}
use Rattle.linked_pending.proofs.ListingLemmas.{listing, has-put_before}
use Rattle.linked_pending.proofs.OrderLemmas.{has-nodes_at, nodes_at-put_before, absent_from_not}
use Rattle.linked_pending.proofs.order.Order.push.Goals as goal

pub insert_before-requires-clause-absent : goal.insert_before-requires-clause-absent
insert_before-requires-clause-absent c =
    has-nodes_at c.args.node _ c.self.invariant.no_root
    ∙ ap (λ (order : Listing). has c.args.node order.items) c.self.view_is ∙ absent_from_not _ _ c.requires.absent

pub invariant_of-self : goal.invariant_of-self
invariant_of-self c =
    let no_root : has 0 (put_before 0 (c.args.node + 1) c.self.inside.chain.items) ≡ false =
    has-put_before 0 0 (c.args.node + 1) c.self.inside.chain.items
    ∙ grind (arith, common_steps, c.self.invariant.no_root) in
    subst IsOrder (sym c.insert_before.ensures) (record { no_root = no_root; counted = c.self.invariant.counted })

pub returns : goal.returns
returns c =
    ap (λ (chain : Listing). listing (chain.room - 1) (nodes_at chain.items)) c.insert_before.ensures
    ∙ ap₂ listing (ap (λ (order : Listing). order.room) c.self.view_is)
    (nodes_at-put_before c.args.node _ c.self.invariant.no_root
    ∙ ap (λ (order : Listing). order.items ++ c.args.node ∷ []) c.self.view_is)
