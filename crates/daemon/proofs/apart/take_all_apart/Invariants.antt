use Rattle.std.proofs.Common.{length}
use Rattle.std.specs.Prelude.{reverse}
use Rattle.crew.specs.Views.{jobs_of}
use Rattle.daemon.specs.Making.{Returns}
use Rattle.daemon.proofs.apart.take_all_apart.Given as goal

-- the first jobs went back
abbrev pub invariant-jobs : goal.invariant-jobs
invariant-jobs g l =
    Returns l.initial.stock (reverse (jobs_of l.initial.places.items)) l.stock (reverse (jobs_of l.places.items))

abbrev pub decreases-jobs : goal.decreases-jobs
decreases-jobs g l = length l.places.items
