use Rattle.std.proofs.Common.{reverse}
use Rattle.book_history.specs.Entries.Entry.{RepliesTaken}
use Rattle.book_core.proofs.CallLemmas.{followed}
use Rattle.book_core.proofs.calls.TakeCallCallBook.on.Goals as goal

pub returns : goal.returns
returns c = λ cfg entries is.
    followed cfg entries (RepliesTaken c.args.self.h c.args.self.inc c.take.result) c.take.new.self
    (c.take.ensures cfg (reverse entries) is)
