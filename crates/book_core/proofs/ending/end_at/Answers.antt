use Rattle.std.proofs.Common.{[], ◌∷◌, refl}
use Rattle.peer_history.specs.Steps.Step.{Ended}
use Rattle.book_core.specs.Ending.{ended_by}
use Rattle.book_core.specs.Moves.{Moves}
use Rattle.book_core.proofs.EndLemmas.{moved_next}
use Rattle.book_core.proofs.SessionLemmas.{with_slot}
use Rattle.book_core.proofs.ending.end_at.Goals as goal

pub returns : goal.returns
returns c = λ start moved.
    let was = c.index_mut-peering.result.now in
    let move : Moves (Ended c.args.code ∷ []) was (with_slot was c.end.new.self) = record {
      slot = c.end.ensures.stands;
      names = refl;
    } in
    moved_next (ended_by c.args.code) start c.args.peers.now.items c.args.n was (with_slot was c.end.new.self)
    c.requires c.index_mut-peering.ensures.value move moved
