use Rattle.std.proofs.Common.{reverse}
use Rattle.book_history.specs.Entries.Entry.{ControlAsked}
use Rattle.book_core.proofs.CallLemmas.{followed}
use Rattle.book_core.proofs.calls.ControlCallCallBook.on.Goals as goal

pub returns : goal.returns
returns c = λ cfg entries is.
    followed cfg entries (ControlAsked c.control.result) c.control.new.self
    (c.control.ensures cfg (reverse entries) is)
