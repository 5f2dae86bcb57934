use Rattle.std.proofs.Common.{◌≡◌, ◌+◌, ◌*◌, ◌%◌, true, false, arith}
use Rattle.std.proofs.lemmas.Grind.{common_steps}
use Rattle.linked_pending.specs.Listing.{has, before_from}
use Rattle.linked_pending.specs.Links.{link}
use Rattle.linked_pending.proofs.QueueLemmas.{left_absent, end_there, end_in, group_in, left_empty, left_some}
use Rattle.linked_pending.proofs.pending.take_out.Goals as goal

pub returns-then-not-contains-clause-items : goal.returns-then-not-contains-clause-items
returns-then-not-contains-clause-items c =
    let absent : has (2 * c.args.node + 1) c.args.chain.now.items ≡ false = grind (arith, common_steps) in
    left_absent _ _ c.requires.queue c.args.node c.requires.node absent

pub overflow_mul-end : goal.overflow_mul-end
overflow_mul-end c =
    let there : has (2 * c.args.node + 1) c.args.chain.now.items ≡ true = grind (arith, common_steps) in
    let inside = group_in _ _ c.requires.queue c.args.node c.requires.node there _ c.remove.ensures in
    omega arith

pub overflow_add-end : goal.overflow_add-end
overflow_add-end c =
    let there : has (2 * c.args.node + 1) c.args.chain.now.items ≡ true = grind (arith, common_steps) in
    let inside = group_in _ _ c.requires.queue c.args.node c.requires.node there _ c.remove.ensures in
    omega arith

pub before-requires-clause-room : goal.before-requires-clause-room
before-requires-clause-room c =
    let there : has (2 * c.args.node + 1) c.args.chain.now.items ≡ true = grind (arith, common_steps) in
    end_in _ _ c.requires.queue c.args.node c.requires.node there _ c.remove.ensures

pub before-requires-clause-there : goal.before-requires-clause-there
before-requires-clause-there c =
    let there : has (2 * c.args.node + 1) c.args.chain.now.items ≡ true = grind (arith, common_steps) in
    end_there _ _ c.requires.queue c.args.node c.requires.node there _ c.remove.ensures

pub remove-requires-then-before-eq0-clause-room : goal.remove-requires-then-before-eq0-clause-room
remove-requires-then-before-eq0-clause-room c =
    let there : has (2 * c.args.node + 1) c.args.chain.now.items ≡ true = grind (arith, common_steps) in
    end_in _ _ c.requires.queue c.args.node c.requires.node there _ c.remove.ensures

pub returns-then-before-eq0-clause-queue : goal.returns-then-before-eq0-clause-queue
returns-then-before-eq0-clause-queue c =
    let there : has (2 * c.args.node + 1) c.args.chain.now.items ≡ true = grind (arith, common_steps) in
    let even : before_from 0 (2 * link c.args.groups.now c.args.node + 2) c.remove.new.self.items % 2 ≡ 0 =
    grind (arith, common_steps) in
    (left_empty _ _ c.requires.queue c.args.node c.requires.node there _ c.remove.ensures _ even
    c.remove-then-before-eq0.ensures).queue

pub returns-then-before-eq0-clause-items : goal.returns-then-before-eq0-clause-items
returns-then-before-eq0-clause-items c =
    let there : has (2 * c.args.node + 1) c.args.chain.now.items ≡ true = grind (arith, common_steps) in
    let even : before_from 0 (2 * link c.args.groups.now c.args.node + 2) c.remove.new.self.items % 2 ≡ 0 =
    grind (arith, common_steps) in
    (left_empty _ _ c.requires.queue c.args.node c.requires.node there _ c.remove.ensures _ even
    c.remove-then-before-eq0.ensures).items

pub returns-else-before-eq0-clause-queue : goal.returns-else-before-eq0-clause-queue
returns-else-before-eq0-clause-queue c =
    let there : has (2 * c.args.node + 1) c.args.chain.now.items ≡ true = grind (arith, common_steps) in
    let odd : before_from 0 (2 * link c.args.groups.now c.args.node + 2) c.remove.new.self.items % 2 ≡ 0 → ⊥ =
    grind (arith, common_steps) in
    (left_some _ _ c.requires.queue c.args.node c.requires.node there _ c.remove.ensures odd).queue

pub returns-else-before-eq0-clause-items : goal.returns-else-before-eq0-clause-items
returns-else-before-eq0-clause-items c =
    let there : has (2 * c.args.node + 1) c.args.chain.now.items ≡ true = grind (arith, common_steps) in
    let odd : before_from 0 (2 * link c.args.groups.now c.args.node + 2) c.remove.new.self.items % 2 ≡ 0 → ⊥ =
    grind (arith, common_steps) in
    (left_some _ _ c.requires.queue c.args.node c.requires.node there _ c.remove.ensures odd).items
