use Rattle.std.proofs.Common.{reverse}
use Rattle.book_history.specs.Entries.Entry.{HelperDeaf}
use Rattle.book_core.proofs.CallLemmas.{followed}
use Rattle.book_core.proofs.calls.DeafCallCallBook.on.Goals as goal

pub returns : goal.returns
returns c = λ cfg entries is.
    followed cfg entries (HelperDeaf c.args.self.h c.args.self.inc) c.deaf.new.self
    (tt, c.deaf.ensures cfg (reverse entries) is)
