-- What becomes of a slot whose queue was lent.
use Rattle.std.specs.Prelude.{List}
use Rattle.std.specs.Borrow.{Lends, MutBor, Fml}
use Rattle.ack_queue.specs.declared.reply.Reply.{Reply}
use Rattle.ack_queue.specs.contracts.queue.AckQueue.{the_row as queue_row}
use Rattle.helper_core.specs.contracts.slot.Slot.{the_row}
use Rattle.helper_core.specs.Helper.{Helper}

-- the slot with these replies waiting
abbrev pub with_replies : Helper → List Reply → Helper
with_replies slot replies = record slot { replies = replies }

-- the slot has the replies that the queue holds in the end, and is as it was else
abbrev pub LendsQueue : MutBor Helper → MutBor (List Reply) → Fml
LendsQueue slot queue = Lends the_row queue_row slot queue (with_replies slot.now)
