use Rattle.std.proofs.Common.{reverse}
use Rattle.book_history.specs.Entries.Entry.{ReloadRefused}
use Rattle.book_core.proofs.CallLemmas.{followed}
use Rattle.book_core.proofs.calls.RefusedCallCallBook.on.Goals as goal

pub returns : goal.returns
returns c = λ cfg entries is.
    followed cfg entries (ReloadRefused c.args.self.why) c.reload_refused.new.self
    (tt, c.reload_refused.ensures cfg (reverse entries) is)
