use Rattle.std.proofs.Common.{reverse}
use Rattle.book_history.specs.Entries.Entry.{Reloaded}
use Rattle.book_core.proofs.CallLemmas.{followed}
use Rattle.book_core.proofs.calls.ReloadCallCallBook.on.Goals as goal

pub returns : goal.returns
returns c = λ cfg entries is.
    followed cfg entries (Reloaded c.args.self.config c.reload.result) c.reload.new.self
    (c.reload.ensures cfg (reverse entries) is)
