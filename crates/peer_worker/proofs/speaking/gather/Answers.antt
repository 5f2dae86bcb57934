use Rattle.peer_worker.proofs.SaidLemmas.{gathered_taken}
use Rattle.peer_worker.proofs.speaking.gather.Goals as goal

pub returns : goal.returns
returns g c =
    gathered_taken g.L.Link _ c.make_room.new.voice _ _ _ c.make_room.ensures.said c.make_room.ensures.slip
    c.take_slip.ensures
