use Rattle.std.proofs.Common.{reverse}
use Rattle.book_history.specs.Entries.Entry.{HelperGone}
use Rattle.book_core.proofs.CallLemmas.{followed}
use Rattle.book_core.proofs.calls.GoneCallCallBook.on.Goals as goal

pub returns : goal.returns
returns c = λ cfg entries is.
    followed cfg entries (HelperGone c.args.self.h c.args.self.inc) c.gone.new.self
    (tt, c.gone.ensures cfg (reverse entries) is)
