use Rattle.std.proofs.Common.{reverse}
use Rattle.book_history.specs.Entries.Entry.{PeerAsked}
use Rattle.book_core.proofs.CallLemmas.{followed}
use Rattle.book_core.proofs.calls.PeerCallCallBook.on.Goals as goal

pub returns : goal.returns
returns c = λ cfg entries is.
    followed cfg entries (PeerAsked c.args.self.n c.peer.result) c.args.state.now
    (c.peer.ensures cfg (reverse entries) is)
