use Rattle.std.proofs.Common.{reverse}
use Rattle.book_history.specs.Entries.Entry.{CameUp}
use Rattle.book_core.proofs.CallLemmas.{followed}
use Rattle.book_core.proofs.calls.UpCallCallBook.on.Goals as goal

pub returns : goal.returns
returns c = λ cfg entries is.
    followed cfg entries (CameUp c.args.self.n c.args.self.settings c.args.self.caps c.up.result) c.up.new.self
    (c.up.ensures cfg (reverse entries) is)
