use Rattle.std.proofs.Common.{◌≡◌, ℕ, true, false, cond, Some, None, List, sym, ap}
use Rattle.std.proofs.Common.{subst, ◌∙◌, arith}
use Rattle.std.proofs.lemmas.Grind.{common_steps}
use Rattle.linked_pending.specs.Links.{link}
use Rattle.linked_pending.specs.Group.{Group, group_of, with_node, without_node}
use Rattle.linked_pending.specs.Pending.{Queues}
use Rattle.slot_batches.specs.Slots.{owes}
use Rattle.slot_batches.specs.Owing.{expected, node_of, IsKept}
use Rattle.slot_batches.proofs.KeptLemmas.{with_waiting, none_frozen, left_kept, joined_kept, group_of_other}
use Rattle.slot_batches.proofs.KeptLemmas.{group_of_gone, group_of_joined}
use Rattle.slot_batches.proofs.queues.settle.Goals as goal

-- the lists after the node has left
left_is : (old new : Queues) (node : ℕ)
    → new ≡ record old { waiting = without_node node old.waiting; frozen = without_node node old.frozen }
    → new.frozen ≡ old.frozen → new ≡ with_waiting old (without_node node old.waiting)
left_is old new node left same =
    left ∙ ap (λ (frozen : List Group). record {
      room = old.room;
      waiting = without_node node old.waiting;
      frozen = frozen;
    }) (sym (ap (λ (queues : Queues). queues.frozen) left) ∙ same)

-- and after it has joined besides
joined_is : (old left new : Queues) (number node : ℕ) → left ≡ with_waiting old (without_node node old.waiting)
    → new ≡ record left { waiting = with_node number node left.waiting }
    → new ≡ with_waiting old (with_node number node (without_node node old.waiting))
joined_is old left new number node was joined =
    joined ∙ ap (λ (queues : Queues). record queues { waiting = with_node number node queues.waiting }) was

pub returns-else-owed-clause-frozen : goal.returns-else-owed-clause-frozen
returns-else-owed-clause-frozen c =
    c.leave.ensures.not_frozen (none_frozen _ _ _ _ _ c.requires.kept c.requires.slot)

pub returns-else-owed-clause-kept : goal.returns-else-owed-clause-kept
returns-else-owed-clause-kept c =
    let is = left_is c.args.pending.now c.leave.new.self (node_of c.args.side c.args.slot) c.leave.ensures.left
    (returns-else-owed-clause-frozen c) in
    subst (λ (queues : Queues). IsKept c.args.nows.now c.args.sents.now queues c.args.side) (sym is)
    (left_kept _ _ _ _ _ c.requires.kept c.requires.slot)

pub returns-else-owed-clause-others : goal.returns-else-owed-clause-others
returns-else-owed-clause-others c = λ node differs.
    ap (λ (queues : Queues). group_of node queues.waiting) c.leave.ensures.left
    ∙ group_of_gone node (node_of c.args.side c.args.slot) c.args.pending.now.waiting differs

pub returns-else-owed-clause-here : goal.returns-else-owed-clause-here
returns-else-owed-clause-here c =
    let not_owed : owes (expected c.args.sents.now c.args.pending.now.frozen c.args.side c.args.slot)
    (link c.args.nows.now c.args.slot) c.args.again ≡ false =
    grind (arith, common_steps, c.expected.ensures, c.is_owed-owed.ensures, c.if-owed.false) in
    let same : owes (expected c.args.sents.now c.leave.new.self.frozen c.args.side c.args.slot)
    (link c.args.nows.now c.args.slot) c.args.again ≡ false =
    ap (λ (frozen : List Group). owes (expected c.args.sents.now frozen c.args.side c.args.slot)
    (link c.args.nows.now c.args.slot) c.args.again) (returns-else-owed-clause-frozen c) ∙ not_owed in
    c.leave.ensures.gone_waiting
    ∙ sym (ap (λ test. cond test (Some (link c.args.nows.now c.args.slot)) None) same)

pub returns-then-owed-clause-frozen : goal.returns-then-owed-clause-frozen
returns-then-owed-clause-frozen c = ap (λ (queues : Queues). queues.frozen) c.join.ensures
    ∙ c.leave.ensures.not_frozen (none_frozen _ _ _ _ _ c.requires.kept c.requires.slot)

pub returns-then-owed-clause-kept : goal.returns-then-owed-clause-kept
returns-then-owed-clause-kept c =
    let left = left_is c.args.pending.now c.leave.new.self (node_of c.args.side c.args.slot) c.leave.ensures.left
    (c.leave.ensures.not_frozen (none_frozen _ _ _ _ _ c.requires.kept c.requires.slot)) in
    let is = joined_is c.args.pending.now c.leave.new.self c.join.new.self (link c.args.nows.now c.args.slot)
    (node_of c.args.side c.args.slot) left c.join.ensures in
    subst (λ (queues : Queues). IsKept c.args.nows.now c.args.sents.now queues c.args.side) (sym is)
    (joined_kept _ _ _ _ _ c.requires.kept c.requires.slot (link c.args.nows.now c.args.slot))

pub returns-then-owed-clause-others : goal.returns-then-owed-clause-others
returns-then-owed-clause-others c = λ node differs.
    ap (λ (queues : Queues). group_of node queues.waiting) c.join.ensures
    ∙ ap (λ (queues : Queues). group_of node (with_node (link c.args.nows.now c.args.slot)
    (node_of c.args.side c.args.slot) queues.waiting)) c.leave.ensures.left
    ∙ group_of_other node _ (node_of c.args.side c.args.slot) c.args.pending.now.waiting differs

pub returns-then-owed-clause-here : goal.returns-then-owed-clause-here
returns-then-owed-clause-here c =
    let is_owed : owes (expected c.args.sents.now c.args.pending.now.frozen c.args.side c.args.slot)
    (link c.args.nows.now c.args.slot) c.args.again ≡ true =
    grind (arith, common_steps, c.expected.ensures, c.is_owed-owed.ensures, c.if-owed.true) in
    let same : owes (expected c.args.sents.now c.join.new.self.frozen c.args.side c.args.slot)
    (link c.args.nows.now c.args.slot) c.args.again ≡ true =
    ap (λ (frozen : List Group). owes (expected c.args.sents.now frozen c.args.side c.args.slot)
    (link c.args.nows.now c.args.slot) c.args.again) (returns-then-owed-clause-frozen c) ∙ is_owed in
    ap (λ (queues : Queues). group_of (node_of c.args.side c.args.slot) queues.waiting) c.join.ensures
    ∙ ap (λ (queues : Queues). group_of (node_of c.args.side c.args.slot)
    (with_node (link c.args.nows.now c.args.slot) (node_of c.args.side c.args.slot) queues.waiting))
    c.leave.ensures.left
    ∙ group_of_joined (link c.args.nows.now c.args.slot) (node_of c.args.side c.args.slot) c.args.pending.now.waiting
    ∙ sym (ap (λ test. cond test (Some (link c.args.nows.now c.args.slot)) None) same)
