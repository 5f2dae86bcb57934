use Rattle.helper_worker.specs.Rounds.{told as told_by}
use Rattle.peer_worker.specs.Rounds.{told}
use Rattle.crew.specs.Crews.{Ends}
use Rattle.crew.proofs.WorkLemmas.{all_zip_back}
use Rattle.crew.proofs.working.end_all.Goals as goal

pub returns : goal.returns
returns g c =
    let files = g.F.Files in
    let spawner = g.S.Spawner in
    let dialer = g.D.Dialer in
    all_zip_back
    (Ends files.content files.faults files.lent
    (λ it. told_by (spawner.children it) (spawner.asked it) (spawner.failed it))
    (λ it. told (dialer.links it) (dialer.asked it) (dialer.failed it)) g.C.Clock.moments)
    c.args.places.len c.args.places.items c.deref_mut.result.now c.end_each.new.places c.args.places.ok.0
    c.deref_mut.ensures.value c.end_each.auto.places c.end_each.ensures
