use Rattle.std.proofs.Common.{reverse}
use Rattle.book_history.specs.Entries.Entry.{RefreshAsked}
use Rattle.book_core.proofs.CallLemmas.{followed}
use Rattle.book_core.proofs.calls.RefreshCallCallBook.on.Goals as goal

pub returns : goal.returns
returns c = λ cfg entries is.
    followed cfg entries (RefreshAsked c.args.self.n c.args.self.family) c.refresh.new.self
    (tt, c.refresh.ensures cfg (reverse entries) is)
