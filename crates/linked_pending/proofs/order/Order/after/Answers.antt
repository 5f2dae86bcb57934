use Rattle.std.proofs.Common.{◌≡◌, ◌+◌, false, sym, ap, ◌∙◌, arith}
use Rattle.std.proofs.lemmas.Grind.{common_steps}
use Rattle.linked_pending.specs.Listing.{Listing, has, behind_or, next_in}
use Rattle.linked_pending.specs.Order.{node_at}
use Rattle.linked_pending.proofs.OrderLemmas.{has-nodes_at, node_at-behind, next_in-absent, absent_above}
use Rattle.linked_pending.proofs.order.Order.after.Goals as goal
use Rattle.linked_pending.proofs.order.Order.after.Goals.{then-node-room-via-then-node-room}
use Rattle.linked_pending.proofs.order.Order.after.Goals.{then-node-room-via-else-node-room+then-not-contains}

pub returns-then-node-room : goal.returns-then-node-room
returns-then-node-room c =
    let absent : has c.args.node c.args.self.now.items ≡ false = elim c.then-node-room.branch [
      | then-node-room-via-then-node-room past ↦ absent_above c.args.node _ _ (grind (arith, common_steps))
          c.room.ensures.within
      | then-node-room-via-else-node-room+then-not-contains missed ↦
          let gone : has (c.args.node + 1) c.self.inside.chain.items ≡ false = grind (arith, common_steps) in
          sym (ap (λ (order : Listing). has c.args.node order.items) c.self.view_is)
          ∙ sym (has-nodes_at c.args.node _ c.self.invariant.no_root) ∙ gone
    ] in
    sym (next_in-absent c.args.node c.args.self.now.items absent)

pub returns : goal.returns
returns c =
    let behind : c.after.result ≡ behind_or 0 (c.args.node + 1) c.self.inside.chain.items =
    grind (arith, common_steps) in
    c.node_of.ensures ∙ ap node_at behind ∙ node_at-behind c.args.node _ c.self.invariant.no_root
    ∙ ap (λ (order : Listing). next_in c.args.node order.items) c.self.view_is
