-- The jobs that workers are.
use Rattle.std.specs.Prelude.{List, map}
use Rattle.book_gate.specs.declared.name.GateName.{Ghosts as NameGhosts}
use Rattle.outside.specs.declared.sink.Sink.{Ghosts as SinkGhosts}
use Rattle.outside.specs.declared.source.Source.{Ghosts as SourceGhosts}
use Rattle.outside.specs.declared.spawner.Spawner.{Ghosts as SpawnerGhosts}
use Rattle.crew.specs.Jobs.{Job}
use Rattle.crew.specs.Jobs.Job.{Keeps, Reads, Replies, Talks}
use Rattle.crew.specs.declared.place.Place.{Place}
use Rattle.crew.specs.declared.worker.Worker.{Worker}
use Rattle.crew.specs.declared.worker.Worker.TheVariants as worker

module _ {F S D E C P N O K L : Type 0} {s : SpawnerGhosts S O K L} {o : SourceGhosts O} {k : SinkGhosts K} {n :
    NameGhosts N}
  where
    -- what a worker is
    abbrev pub job_of : Worker F S D E C P N O K L s o k n → Job F S D E C
    job_of (worker.Reading reader) = Reads reader.h reader.spawner reader.clock reader.pass
    job_of (worker.Replying replier) = Replies replier.h replier.last replier.pass
    job_of (worker.Talking talker) = Talks talker.n talker.dialer talker.ear talker.pass
    job_of (worker.Keeping keeper) = Keeps keeper.files keeper.path.now keeper.slots keeper.pass

    -- what the workers in places are
    abbrev pub jobs_of : List (Place (Worker F S D E C P N O K L s o k n)) → List (Job F S D E C)
    jobs_of places = map (λ place. job_of place.worker) places
