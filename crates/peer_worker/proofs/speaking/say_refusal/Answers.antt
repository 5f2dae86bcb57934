use Rattle.std.proofs.Common.{refl}
use Rattle.peer_worker.specs.Deeds.{RefusalSaid}
use Rattle.peer_worker.proofs.SaidLemmas.{gathered_slip}
use Rattle.peer_worker.proofs.ActLemmas.{moves_note}
use Rattle.peer_worker.proofs.speaking.say_refusal.Goals as goal

pub returns : goal.returns
returns g c =
    moves_note c.args.own _ _ (RefusalSaid c.args.refusal.now) _ refl
    (gathered_slip g.L.Link c.args.voice.now c.args.desk.now _ _ _ c.put_notification.ensures c.gather.ensures)
