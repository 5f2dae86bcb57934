use Rattle.std.proofs.Common.{◌≡◌, ℕ, ◌≤◌, List, length, subst, sym, ap, ap₂, ◌∙◌, arith}
use Rattle.std.proofs.lemmas.Grind.{common_steps}
use Rattle.linked_pending.specs.Group.{group_of, without_node}
use Rattle.linked_pending.specs.Layout.{parse}
use Rattle.linked_pending.specs.Pending.{Queues, IsQueue}
use Rattle.linked_pending.proofs.GroupLemmas.{absent_from_no_group, no_group_from_absent, without_node_absent}
use Rattle.linked_pending.proofs.GroupLemmas.{group_of_left}
use Rattle.linked_pending.proofs.QueueLemmas.{queues, queues_left, absent_above}
use Rattle.linked_pending.proofs.pending.Pending.leave.Goals as goal

pub invariant_of-self : goal.invariant_of-self
invariant_of-self c =
    let waiting = subst (λ (table : List ℕ). IsQueue table c.take_out.new.chain) c.deref.ensures.value
    c.take_out.ensures.queue in
    let frozen = subst (λ (table : List ℕ). IsQueue table c.take_out-then-node-len.new.chain)
    c.deref-then-node-len.ensures.value c.take_out-then-node-len.ensures.queue in
    queues_left _ _ _ _ _ _ c.self.invariant waiting frozen c.take_out.ensures.items
    c.take_out-then-node-len.ensures.items

pub returns-then-node-len-clause-not_waiting : goal.returns-then-node-len-clause-not_waiting
returns-then-node-len-clause-not_waiting c = λ none.
    let was = ap (λ (queues : Queues). queues.waiting) c.self.view_is in
    c.take_out.ensures.items
    ∙ without_node_absent c.args.node _ c.self.invariant.first.full
    (absent_from_no_group c.args.node (parse c.self.inside.waiting.items) (ap (group_of c.args.node) was ∙ none)) ∙ was

pub returns-then-node-len-clause-not_frozen : goal.returns-then-node-len-clause-not_frozen
returns-then-node-len-clause-not_frozen c = λ none.
    let was = ap (λ (queues : Queues). queues.frozen) c.self.view_is in
    c.take_out-then-node-len.ensures.items
    ∙ without_node_absent c.args.node _ c.self.invariant.second.full
    (absent_from_no_group c.args.node (parse c.self.inside.frozen.items) (ap (group_of c.args.node) was ∙ none)) ∙ was

pub returns-else-node-len-clause-left : goal.returns-else-node-len-clause-left
returns-else-node-len-clause-left c =
    let above : length c.self.inside.groups.items ≤ c.args.node = grind (arith, common_steps) in
    let waiting = sym (without_node_absent c.args.node _ c.self.invariant.first.full
    (absent_above _ _ c.args.node c.self.invariant.first above)) in
    let frozen = sym (without_node_absent c.args.node _ c.self.invariant.second.full
    (absent_above _ _ c.args.node c.self.invariant.second above)) in
    let same : queues (length c.self.inside.groups.items) (parse c.self.inside.waiting.items)
    (parse c.self.inside.frozen.items) ≡ queues (length c.self.inside.groups.items)
    (without_node c.args.node (parse c.self.inside.waiting.items))
    (without_node c.args.node (parse c.self.inside.frozen.items)) =
    ap₂ (queues (length c.self.inside.groups.items)) waiting frozen in
    sym c.self.view_is ∙ same ∙ ap (λ (shown : Queues). queues shown.room (without_node c.args.node shown.waiting)
    (without_node c.args.node shown.frozen)) c.self.view_is

pub returns-then-node-len-clause-gone_waiting : goal.returns-then-node-len-clause-gone_waiting
returns-then-node-len-clause-gone_waiting c = ap (group_of c.args.node) c.take_out.ensures.items
    ∙ group_of_left c.args.node (parse c.self.inside.waiting.items)

pub returns-then-node-len-clause-gone_frozen : goal.returns-then-node-len-clause-gone_frozen
returns-then-node-len-clause-gone_frozen c = ap (group_of c.args.node) c.take_out-then-node-len.ensures.items
    ∙ group_of_left c.args.node (parse c.self.inside.frozen.items)

pub returns-else-node-len-clause-gone_waiting : goal.returns-else-node-len-clause-gone_waiting
returns-else-node-len-clause-gone_waiting c =
    let above : length c.self.inside.groups.items ≤ c.args.node = grind (arith, common_steps) in
    sym (ap (λ (shown : Queues). group_of c.args.node shown.waiting) c.self.view_is)
    ∙ no_group_from_absent c.args.node (parse c.self.inside.waiting.items)
    (absent_above _ _ c.args.node c.self.invariant.first above)

pub returns-else-node-len-clause-gone_frozen : goal.returns-else-node-len-clause-gone_frozen
returns-else-node-len-clause-gone_frozen c =
    let above : length c.self.inside.groups.items ≤ c.args.node = grind (arith, common_steps) in
    sym (ap (λ (shown : Queues). group_of c.args.node shown.frozen) c.self.view_is)
    ∙ no_group_from_absent c.args.node (parse c.self.inside.frozen.items)
    (absent_above _ _ c.args.node c.self.invariant.second above)
