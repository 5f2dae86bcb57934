use Rattle.std.proofs.Common.{reverse}
use Rattle.book_history.specs.Entries.Entry.{MessageCut}
use Rattle.book_core.proofs.CallLemmas.{followed}
use Rattle.book_core.proofs.calls.CutCallCallBook.on.Goals as goal

pub returns : goal.returns
returns c = λ cfg entries is.
    followed cfg entries (MessageCut c.args.self.n c.cut-cut.new.out.bytes c.cut-cut.result) c.cut-cut.new.self
    (c.cut-cut.ensures.stands cfg (reverse entries) is)
