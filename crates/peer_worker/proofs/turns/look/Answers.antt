use Rattle.peer_worker.proofs.MessageLemmas.{recv_later, recv_within}
use Rattle.peer_worker.proofs.SaidLemmas.{gathered_heard, gathered_none}
use Rattle.peer_worker.proofs.turns.look.Goals as goal

pub returns-then-voice-clause-still : goal.returns-then-voice-clause-still
returns-then-voice-clause-still g c = λ desk. gathered_none _

pub returns-clause-still : goal.returns-clause-still
returns-clause-still g c =
    λ desk.
    gathered_heard g.L.Link c.args.voice.now c.recv.new.self desk c.recv.ensures.taken c.recv.ensures.dialled
    (recv_later _ _ c.recv.result c.recv.ensures.cause)

pub returns-clause-within : goal.returns-clause-within
returns-clause-within g c = recv_within _ _ _ c.recv.result c.recv.ensures.bytes
