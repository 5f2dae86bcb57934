use Rattle.book_core.proofs.CarryLemmas.{moves_by}
use Rattle.book_core.proofs.EndLemmas.{moved_next}
use Rattle.book_core.proofs.SessionLemmas.{with_slot}
use Rattle.book_history.specs.PeerSteps.{commanded}
use Rattle.book_core.proofs.carrying.carry_at.Goals as goal

pub returns : goal.returns
returns c = λ start steps told moved.
    let was = c.index_mut-peering.result.now in
    moved_next steps start c.args.peers.now.items c.args.n was (with_slot was c.carry_one.new.slot) c.requires.place
    c.index_mut-peering.ensures.value
    (moves_by was c.carry_one.new.slot (steps c.args.n) (commanded c.args.command.now c.args.so) told
    c.carry_one.ensures) moved
