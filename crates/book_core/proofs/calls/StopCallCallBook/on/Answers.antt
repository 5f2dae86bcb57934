use Rattle.std.proofs.Common.{reverse}
use Rattle.book_history.specs.Entries.Entry.{Stopped}
use Rattle.book_core.proofs.CallLemmas.{followed}
use Rattle.book_core.proofs.calls.StopCallCallBook.on.Goals as goal

pub returns : goal.returns
returns c = λ cfg entries is.
    followed cfg entries Stopped c.stop.new.self
    (tt, c.stop.ensures cfg (reverse entries) is)
