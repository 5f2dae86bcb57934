use Rattle.daemon.proofs.MakingLemmas.{talker_peers_moves}
use Rattle.daemon.proofs.StepLemmas.{talker_added}
use Rattle.daemon.proofs.talkers.add_talker.Goals as goal

pub returns-clause-moves : goal.returns-clause-moves
returns-clause-moves g c =
    talker_added _ _ _ _ _ _ c.push_reserved.ensures.items
    (talker_peers_moves _ _ _ _ _ _ _ c.in_ok-talker.ensures.slot c.in_ok-talker.ensures.gave
    c.make_talker.ensures.room)
