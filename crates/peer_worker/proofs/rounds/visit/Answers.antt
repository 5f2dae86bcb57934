use Rattle.std.proofs.Common.{ap}
use Rattle.peer_worker.specs.Desks.{Desked}
use Rattle.peer_worker.proofs.RoundLemmas.{visit_done, visit_missed, visited}
use Rattle.peer_worker.proofs.rounds.visit.Goals as goal

pub returns-in-Open : goal.returns-in-Open
returns-in-Open g c =
    let link = c.converse.new.voice.link in
    let ghosts = g.D.Link.Link in
    visit_done _ _ _ _ _ _ _ _
    (visited _ _ _ _ _ _ (ghosts.given link) (ghosts.quiets link) (ghosts.ended link) c.converse.ensures.goes
    (rw c.new-voice.ensures.link c.in-Open.ensures.link.1) (rw c.new-voice.ensures.link c.in-Open.ensures.dialled)
    c.new-voice.ensures.broken (ap (λ (desk : Desked). desk.out) c.empty.ensures) c.converse.ensures.out)
    c.connect.ensures.asked c.in-Open.ensures.failed c.connect.ensures.links
    (rw c.apart.ensures at c.give_back.ensures.links) c.give_back.ensures.asked c.give_back.ensures.failed

pub returns-in-Failed : goal.returns-in-Failed
returns-in-Failed g c =
    visit_missed _ _ _ _ _ c.connect.ensures.asked c.in-Failed.ensures.failed c.connect.ensures.links
