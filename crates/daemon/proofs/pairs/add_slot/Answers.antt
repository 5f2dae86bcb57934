use Rattle.daemon.proofs.MakingLemmas.{pair_helpers_moves}
use Rattle.daemon.proofs.StepLemmas.{slot_added}
use Rattle.daemon.proofs.pairs.add_slot.Goals as goal

pub returns-clause-moves : goal.returns-clause-moves
returns-clause-moves g c =
    slot_added _ _ _ _ _ _ _ _ _ c.push_reserved.ensures.items c.push_reserved-2.ensures.items
    (pair_helpers_moves _ _ _ _ _ _ _ _ _ _ _ c.in_ok-pair.ensures.slot c.in_ok-pair.ensures.same
    c.in_ok-pair.ensures.none c.in_ok-pair.ensures.clock c.in_ok-pair.ensures.gave c.make_slot.ensures.room)
