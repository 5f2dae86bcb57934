use Rattle.helper_worker.specs.Rounds.{told as told_by}
use Rattle.peer_worker.specs.Rounds.{told}
use Rattle.crew.proofs.WorkLemmas.{all_go}
use Rattle.crew.proofs.working.work.Goals as goal

pub returns-clause-went : goal.returns-clause-went
returns-clause-went g c =
    let files = g.F.Files in
    let spawner = g.S.Spawner in
    let dialer = g.D.Dialer in
    all_go files.content files.faults files.lent
    (λ it. told_by (spawner.children it) (spawner.asked it) (spawner.failed it))
    (λ it. told (dialer.links it) (dialer.asked it) (dialer.failed it)) g.C.Clock.moments
    c.args.plan.now 0 c.args.places.items c.mark_all-places.result.places.items c.end_all.result.items
    c.mark_all-places.ensures.marked c.end_all.ensures
