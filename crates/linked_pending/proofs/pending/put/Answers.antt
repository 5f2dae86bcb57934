use Rattle.std.proofs.Common.{inr}
use Rattle.linked_pending.proofs.QueueLemmas.{end_opened, node_off, joined}
use Rattle.linked_pending.proofs.pending.put.Goals as goal

pub insert_before-requires-clause-spot : goal.insert_before-requires-clause-spot
insert_before-requires-clause-spot c =
    inr (end_opened _ _ c.requires.queue c.args.node c.requires.node c.requires.absent c.requires.group _
    c.open_group.ensures)

pub insert_before-requires-clause-absent : goal.insert_before-requires-clause-absent
insert_before-requires-clause-absent c =
    node_off _ _ c.requires.queue c.args.node c.requires.node c.requires.absent c.requires.group _ c.open_group.ensures

pub returns-clause-queue : goal.returns-clause-queue
returns-clause-queue c =
    (joined _ _ c.requires.queue c.args.node c.requires.node c.requires.absent c.requires.group _ c.open_group.ensures _
    c.insert_before.ensures).queue

pub returns-clause-items : goal.returns-clause-items
returns-clause-items c =
    (joined _ _ c.requires.queue c.args.node c.requires.node c.requires.absent c.requires.group _ c.open_group.ensures _
    c.insert_before.ensures).items
