use denote.Param.Send.{sendable}
use Rattle.std.proofs.Common.{rules, subst₂}
use Rattle.helper_worker.specs.Rounds.{told as told_by}
use Rattle.peer_worker.specs.Rounds.{told}
use Rattle.crew.specs.Crews.{Ends}
use Rattle.crew.proofs.working.end_each.Goals as goal

pub for_each_mut-requires-clause-accepts : goal.for_each_mut-requires-clause-accepts
for_each_mut-requires-clause-accepts g c = let bounds = c.type_bounds in
    λ names met i p lt is. search (rules, sendable, bounds)

pub returns-then-count-gt0 : goal.returns-then-count-gt0
returns-then-count-gt0 g c =
    let files = g.F.Files in
    let spawner = g.S.Spawner in
    let dialer = g.D.Dialer in
    λ i d lt. let left = (c.for_each_mut.ensures i d lt).1 in
    subst₂
    (Ends files.content files.faults files.lent
    (λ it. told_by (spawner.children it) (spawner.asked it) (spawner.failed it))
    (λ it. told (dialer.links it) (dialer.asked it)
    (dialer.failed it)) g.C.Clock.moments) left.argument_is left.left left.call
