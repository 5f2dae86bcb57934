use Rattle.std.proofs.Common.{[]}
use Rattle.helper_worker.specs.Handing.{writer_of}
use Rattle.helper_worker.specs.Rounds.{Reads, told}
use Rattle.helper_worker.proofs.reading.read_helpers.Given as goal

-- helpers were started and heard, and none is there
abbrev pub invariant-loop : goal.invariant-loop
invariant-loop g l =
    let spawner = g.S.Spawner in
    Reads l.fn.h (writer_of l.fn.h) (g.C.Clock.moments l.fn.clock)
    (told (spawner.children l.initial.spawner) (spawner.asked l.initial.spawner) (spawner.failed l.initial.spawner))
    (told (spawner.children l.spawner) (spawner.asked l.spawner) (spawner.failed l.spawner)) [] l.initial.pass l.pass
