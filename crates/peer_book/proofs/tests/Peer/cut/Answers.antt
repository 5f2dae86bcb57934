use Rattle.std.proofs.Common.{◌≤◌, sym, subst}
use Rattle.attr_codec.specs.Buffer.{Buffer}
use Rattle.peer_book.proofs.TestLemmas.{room_fits}
use Rattle.peer_book.proofs.tests.Peer.cut.Goals as goal

pub cut-requires-clause-room : goal.cut-requires-clause-room
cut-requires-clause-room c = λ caps up.
    room_fits caps _ (subst (λ (buffer : Buffer). 65535 ≤ buffer.room) (sym c.clear.ensures) c.args.self.now.roomy)
