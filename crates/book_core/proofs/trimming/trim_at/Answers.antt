use Rattle.std.proofs.Common.{[], refl}
use Rattle.book_core.specs.Moves.{nothing}
use Rattle.book_core.proofs.CarryLemmas.{moves_by}
use Rattle.book_core.proofs.EndLemmas.{moved_next}
use Rattle.book_core.proofs.SessionLemmas.{with_slot}
use Rattle.book_core.proofs.trimming.trim_at.Goals as goal

pub returns : goal.returns
returns c = λ start moved.
    let was = c.index_mut-peering.result.now in
    moved_next nothing start c.args.peers.now.items c.args.n was (with_slot was c.trim.new.self) c.requires
    c.index_mut-peering.ensures.value (moves_by was c.trim.new.self [] [] refl c.trim.ensures.stands) moved
