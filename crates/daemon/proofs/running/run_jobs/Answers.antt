use Rattle.std.proofs.Common.{ℕ, length, subst}
use Rattle.std.proofs.lemmas.List.{length-map}
use Rattle.crew.specs.Crews.{RefusesNone, RefusesOne}
use Rattle.crew.specs.Views.{job_of, jobs_of}
use Rattle.helper_worker.specs.Rounds.{told as told_by}
use Rattle.outside.specs.Refusals.{is_refused}
use Rattle.peer_worker.specs.Rounds.{told}
use Rattle.daemon.proofs.RunLemmas.{all_jobs, as_many_ears, as_many_helpers, as_many_peers, gone_room, gone_whole}
use Rattle.daemon.proofs.RunLemmas.{run_done}
use Rattle.daemon.proofs.running.run_jobs.Goals as goal

pub take_all_apart-requires-clause-whole : goal.take_all_apart-requires-clause-whole
take_all_apart-requires-clause-whole g c κs within =
    gone_whole g.F.Files.content g.F.Files.faults g.F.Files.lent
    (λ it. told_by (g.S.Spawner.children it) (g.S.Spawner.asked it) (g.S.Spawner.failed it))
    (λ it. told (g.D.Dialer.links it) (g.D.Dialer.asked it) (g.D.Dialer.failed it)) g.C.Clock.moments
    (is_refused c.args.crew.now) c.args.clock c.args.path.text.now c.args.slots c.args.files c.args.stock.now
    c.make_all-made.new.stock (jobs_of c.in-Ok.places.items) (jobs_of c.work-places.result.places.items)
    c.in-Ok.ensures.laid c.work-places.ensures.went

pub take_all_apart-requires-clause-room : goal.take_all_apart-requires-clause-room
take_all_apart-requires-clause-room g c κs within =
    gone_room g.F.Files.content g.F.Files.faults g.F.Files.lent
    (λ it. told_by (g.S.Spawner.children it) (g.S.Spawner.asked it) (g.S.Spawner.failed it))
    (λ it. told (g.D.Dialer.links it) (g.D.Dialer.asked it) (g.D.Dialer.failed it)) g.C.Clock.moments
    (is_refused c.args.crew.now) c.args.clock c.args.path.text.now c.args.slots c.args.files c.args.stock.now
    c.make_all-made.new.stock (jobs_of c.in-Ok.places.items) (jobs_of c.work-places.result.places.items)
    c.in-Ok.ensures.laid c.work-places.ensures.went c.in-Ok.ensures.room

pub returns-clause-done : goal.returns-clause-done
returns-clause-done g c =
    run_done g.F.Files.content g.F.Files.faults g.F.Files.lent
    (λ it. told_by (g.S.Spawner.children it) (g.S.Spawner.asked it) (g.S.Spawner.failed it))
    (λ it. told (g.D.Dialer.links it) (g.D.Dialer.asked it) (g.D.Dialer.failed it)) g.C.Clock.moments
    (is_refused c.args.crew.now) c.args.clock c.args.path.text.now c.args.slots c.args.files c.args.stock.now
    c.make_all-made.new.stock (jobs_of c.in-Ok.places.items) (jobs_of c.work-places.result.places.items)
    c.in-Ok.ensures.laid c.work-places.ensures.went c.take_all_apart.new.stock c.in-Ok.ensures.used
    c.take_all_apart.ensures.back c.take_all_apart.result c.requires.helpers c.requires.peers
    c.take_all_apart.ensures.files

pub returns-clause-helpers : goal.returns-clause-helpers
returns-clause-helpers g c =
    as_many_helpers g.F.Files.content g.F.Files.faults g.F.Files.lent
    (λ it. told_by (g.S.Spawner.children it) (g.S.Spawner.asked it) (g.S.Spawner.failed it))
    (λ it. told (g.D.Dialer.links it) (g.D.Dialer.asked it) (g.D.Dialer.failed it)) g.C.Clock.moments
    (is_refused c.args.crew.now) c.args.clock c.args.path.text.now c.args.slots c.args.files c.args.stock.now
    c.make_all-made.new.stock (jobs_of c.in-Ok.places.items) (jobs_of c.work-places.result.places.items)
    c.in-Ok.ensures.laid c.work-places.ensures.went c.take_all_apart.new.stock c.in-Ok.ensures.used
    c.take_all_apart.ensures.back

pub returns-clause-peers : goal.returns-clause-peers
returns-clause-peers g c =
    as_many_peers g.F.Files.content g.F.Files.faults g.F.Files.lent
    (λ it. told_by (g.S.Spawner.children it) (g.S.Spawner.asked it) (g.S.Spawner.failed it))
    (λ it. told (g.D.Dialer.links it) (g.D.Dialer.asked it) (g.D.Dialer.failed it)) g.C.Clock.moments
    (is_refused c.args.crew.now) c.args.clock c.args.path.text.now c.args.slots c.args.files c.args.stock.now
    c.make_all-made.new.stock (jobs_of c.in-Ok.places.items) (jobs_of c.work-places.result.places.items)
    c.in-Ok.ensures.laid c.work-places.ensures.went c.take_all_apart.new.stock c.in-Ok.ensures.used
    c.take_all_apart.ensures.back

pub returns-clause-ears : goal.returns-clause-ears
returns-clause-ears g c =
    as_many_ears g.F.Files.content g.F.Files.faults g.F.Files.lent
    (λ it. told_by (g.S.Spawner.children it) (g.S.Spawner.asked it) (g.S.Spawner.failed it))
    (λ it. told (g.D.Dialer.links it) (g.D.Dialer.asked it) (g.D.Dialer.failed it)) g.C.Clock.moments
    (is_refused c.args.crew.now) c.args.clock c.args.path.text.now c.args.slots c.args.files c.args.stock.now
    c.make_all-made.new.stock (jobs_of c.in-Ok.places.items) (jobs_of c.work-places.result.places.items)
    c.in-Ok.ensures.laid c.work-places.ensures.went c.take_all_apart.new.stock c.in-Ok.ensures.used
    c.take_all_apart.ensures.back

pub returns-clause-all : goal.returns-clause-all
returns-clause-all g c = λ is.
    subst (λ (count : ℕ). RefusesNone c.args.crew.now count)
    (all_jobs c.args.clock c.args.path.text.now c.args.slots c.args.files c.args.gate.now c.args.stock.now
    (jobs_of c.in-Ok.places.items) (length c.in-Ok.places.items)
    (length-map c.in-Ok.places.items (λ place. job_of place.worker)) c.requires.full c.requires.helpers
    c.requires.peers c.in-Ok.ensures.laid) (c.work-places.ensures.all is)

pub returns-clause-one : goal.returns-clause-one
returns-clause-one g c = λ is. (
  subst (λ (count : ℕ). RefusesOne c.args.crew.now count)
      (all_jobs c.args.clock c.args.path.text.now c.args.slots c.args.files c.args.gate.now c.args.stock.now
      (jobs_of c.in-Ok.places.items) (length c.in-Ok.places.items)
      (length-map c.in-Ok.places.items (λ place. job_of place.worker)) c.requires.full c.requires.helpers
      c.requires.peers c.in-Ok.ensures.laid) (c.work-places.ensures.one is),
  c.work-places.ensures.count is,
)
