use Rattle.std.proofs.Common.{reverse}
use Rattle.book_history.specs.Entries.Entry.{WentDown}
use Rattle.book_core.proofs.CallLemmas.{followed}
use Rattle.book_core.proofs.calls.DownCallCallBook.on.Goals as goal

pub returns : goal.returns
returns c = λ cfg entries is.
    followed cfg entries (WentDown c.args.self.n) c.down.new.self
    (tt, c.down.ensures cfg (reverse entries) is)
