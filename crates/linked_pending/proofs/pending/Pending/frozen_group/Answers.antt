use Rattle.std.proofs.Common.{◌≡◌, ◌+◌, ◌*◌, ◌<◌, length, Bool, cond, Some, None, true, false, sym, ap, ◌∙◌, arith}
use Rattle.std.proofs.lemmas.Grind.{common_steps}
use Rattle.linked_pending.specs.Listing.{has}
use Rattle.linked_pending.specs.Links.{link}
use Rattle.linked_pending.specs.Group.{group_of}
use Rattle.linked_pending.specs.Layout.{has_node, parse}
use Rattle.linked_pending.specs.Pending.{Queues}
use Rattle.linked_pending.proofs.GroupLemmas.{group_of_member, no_group_from_absent}
use Rattle.linked_pending.proofs.QueueLemmas.{node_listed, absent_above}
use Rattle.linked_pending.proofs.pending.Pending.frozen_group.Goals as goal
use Rattle.linked_pending.proofs.pending.Pending.frozen_group.Goals.{else-node-len-via-then-node-len+else-contains}
use Rattle.linked_pending.proofs.pending.Pending.frozen_group.Goals.{else-node-len-via-else-node-len}

pub returns-then-contains : goal.returns-then-contains
returns-then-contains c =
    let room : c.args.node < length c.self.inside.groups.items = grind (arith, common_steps) in
    let listed : has (2 * c.args.node + 1) c.self.inside.frozen.items ≡ true = grind (arith, common_steps) in
    let there : has_node c.args.node (parse c.self.inside.frozen.items) ≡ true =
    sym (node_listed _ _ c.self.invariant.second c.args.node room c.args.node) ∙ listed in
    let read : c.index.result.now ≡ link c.self.inside.groups.items c.args.node = grind (arith, common_steps) in
    let group_is : group_of c.args.node (parse c.self.inside.frozen.items)
    ≡ Some (link c.self.inside.groups.items c.args.node) =
    group_of_member _ c.args.node _ c.self.invariant.second.members
    ∙ ap (λ (test : Bool). cond test (Some (link c.self.inside.groups.items c.args.node)) None) there in
    ap Some read ∙ sym group_is ∙ ap (λ (queues : Queues). group_of c.args.node queues.frozen) c.self.view_is

pub returns-else-node-len : goal.returns-else-node-len
returns-else-node-len c =
    let absent : has_node c.args.node (parse c.self.inside.frozen.items) ≡ false = elim c.else-node-len.branch [
      | else-node-len-via-then-node-len+else-contains missed ↦
          let room : c.args.node < length c.self.inside.groups.items = grind (arith, common_steps) in
          let gone : has (2 * c.args.node + 1) c.self.inside.frozen.items ≡ false = grind (arith, common_steps) in
          sym (node_listed _ _ c.self.invariant.second c.args.node room c.args.node) ∙ gone
      | else-node-len-via-else-node-len past ↦ absent_above _ _ c.args.node c.self.invariant.second
          (grind (arith, common_steps))
    ] in
    sym (no_group_from_absent c.args.node (parse c.self.inside.frozen.items) absent)
    ∙ ap (λ (queues : Queues). group_of c.args.node queues.frozen) c.self.view_is
