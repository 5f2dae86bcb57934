use Rattle.std.proofs.Common.{reverse}
use Rattle.book_history.specs.Entries.Entry.{LineEntered}
use Rattle.book_core.proofs.CallLemmas.{followed}
use Rattle.book_core.proofs.calls.LineCallCallBook.on.Goals as goal

pub returns : goal.returns
returns c = λ cfg entries is.
    followed cfg entries
    (LineEntered c.args.self.h c.args.self.inc c.args.self.read.now.line c.args.self.read.now.reading c.line.result)
    c.line.new.self (c.line.ensures cfg (reverse entries) is)
