use Rattle.std.proofs.Common.{reverse}
use Rattle.book_history.specs.Entries.Entry.{SpawnAsked}
use Rattle.book_core.proofs.CallLemmas.{followed}
use Rattle.book_core.proofs.calls.SpawnCallCallBook.on.Goals as goal

pub returns : goal.returns
returns c = λ cfg entries is.
    followed cfg entries (SpawnAsked c.args.self.h c.args.self.now c.spawn.result) c.spawn.new.self
    (c.spawn.ensures cfg (reverse entries) is)
