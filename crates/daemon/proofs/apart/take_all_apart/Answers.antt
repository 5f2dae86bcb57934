use Rattle.crew.specs.Views.{job_of}
use Rattle.daemon.proofs.BackLemmas.{back_all, back_files, back_none, back_on}
use Rattle.daemon.proofs.apart.take_all_apart.Goals as goal

pub jobs-init : goal.jobs-init
jobs-init g c = back_none _ _ _ _ c.turn_round.ensures c.requires.whole c.requires.room

pub returns-in-Some-clause-files : goal.returns-in-Some-clause-files
returns-in-Some-clause-files g c =
    back_files (λ place. job_of place.worker) c.args.stock.now c.args.places.items c.turn_round.new.items.items
    c.turn_round.ensures c.jobs.stock c.jobs.places.items c.jobs.invariant _ c.in-Some.ensures.files

pub returns-in-Some-clause-back : goal.returns-in-Some-clause-back
returns-in-Some-clause-back g c =
    back_all (λ place. job_of place.worker) c.args.stock.now c.args.places.items c.turn_round.new.items.items
    c.turn_round.ensures c.jobs.stock c.jobs.places.items c.jobs.invariant _ c.in-Some.ensures.back

pub jobs-preserved : goal.jobs-preserved
jobs-preserved g c =
    back_on (λ place. job_of place.worker) c.args.stock.now c.args.places.items c.turn_round.new.items.items
    c.turn_round.ensures c.jobs.stock c.jobs.places.items c.jobs.invariant c.put_next.new.stock
    c.put_next.new.places.items c.in_default.ensures.returns
