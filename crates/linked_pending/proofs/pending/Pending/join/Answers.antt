use Rattle.std.proofs.Common.{◌≡◌, ℕ, ◌<◌, false, List, length, refl, sym, subst, ap, ◌∙◌, arith}
use Rattle.std.proofs.lemmas.Grind.{common_steps}
use Rattle.linked_pending.specs.Links.{link}
use Rattle.linked_pending.specs.Group.{with_node}
use Rattle.linked_pending.specs.Layout.{parse, has_node}
use Rattle.linked_pending.specs.Pending.{Queues, IsQueue}
use Rattle.linked_pending.proofs.CrossedLemmas.{link-set_same}
use Rattle.linked_pending.proofs.GroupLemmas.{absent_from_no_group}
use Rattle.linked_pending.proofs.QueueLemmas.{queue_set, queues_joined}
use Rattle.linked_pending.proofs.pending.Pending.join.Goals as goal

pub put-requires-clause-absent : goal.put-requires-clause-absent
put-requires-clause-absent c =
    ap (λ (queues : Queues). has_node c.args.node queues.waiting) c.self.view_is
    ∙ absent_from_no_group c.args.node c.args.self.now.waiting c.requires.not_waiting

pub put-requires-clause-queue : goal.put-requires-clause-queue
put-requires-clause-queue c =
    let absent : has_node c.args.node (parse c.self.inside.waiting.items) ≡ false =
    ap (λ (queues : Queues). has_node c.args.node queues.waiting) c.self.view_is
    ∙ absent_from_no_group c.args.node c.args.self.now.waiting c.requires.not_waiting in
    subst (λ (table : List ℕ). IsQueue table c.self.inside.waiting) (sym c.deref.ensures.value)
    (queue_set _ _ c.args.node c.args.group c.self.invariant.first absent)

pub invariant_of-self : goal.invariant_of-self
invariant_of-self c =
    let absent : has_node c.args.node (parse c.self.inside.frozen.items) ≡ false =
    ap (λ (queues : Queues). has_node c.args.node queues.frozen) c.self.view_is
    ∙ absent_from_no_group c.args.node c.args.self.now.frozen c.requires.not_frozen in
    let queue = subst (λ (table : List ℕ). IsQueue table c.put.new.chain) c.deref.ensures.value c.put.ensures.queue in
    let room : c.args.node < length c.self.inside.groups.items = grind (arith, common_steps) in
    let group_is : link c.deref.result.now c.args.node ≡ c.args.group =
    ap (λ (table : List ℕ). link table c.args.node) c.deref.ensures.value ∙ link-set_same _ _ _ room in
    let items_are = subst (λ (number : ℕ). parse c.put.new.chain.items
    ≡ with_node number c.args.node (parse c.self.inside.waiting.items)) group_is c.put.ensures.items in
    queues_joined _ _ _ _ _ _ c.self.invariant absent queue _ refl items_are
