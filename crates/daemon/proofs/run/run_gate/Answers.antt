use Rattle.std.proofs.Common.{ℕ, subst}
use Rattle.helper_worker.specs.Rounds.{told as told_by}
use Rattle.peer_worker.specs.Rounds.{told}
use Rattle.book_gate_many.specs.Many.{IsMany}
use Rattle.daemon.proofs.EndingLemmas.{ended, files_back, full, gates_back, same_all, same_files, same_passes}
use Rattle.daemon.proofs.JoinedLemmas.{are_new}
use Rattle.daemon.proofs.run.run_gate.Goals as goal

pub run_jobs-files-requires-clause-full : goal.run_jobs-files-requires-clause-full
run_jobs-files-requires-clause-full g c κs within =
    let opened = c.requires.opened in
    let many = subst (λ (count : ℕ). IsMany c.args.opened.pass count c.split_many.new.pass c.in-Ok.passes.items)
    c.workers.ensures c.in-Ok.ensures in
    full c.args.opened.gate _ c.args.slots.helpers c.args.slots.peers
    (are_new c.args.opened.gate opened.0 _ c.args.opened.pass c.split_many.new.pass c.in-Ok.passes.items opened.2 many)
    c.requires.slots.0 c.requires.slots.1 c.requires.helpers c.requires.peers c.requires.ears

pub end-status-requires-clause-passes : goal.end-status-requires-clause-passes
end-status-requires-clause-passes g c =
    let opened = c.requires.opened in
    let many = subst (λ (count : ℕ). IsMany c.args.opened.pass count c.split_many.new.pass c.in-Ok.passes.items)
    c.workers.ensures c.in-Ok.ensures in
    let jobs = c.run_jobs-files in
    gates_back g.F.Files.content g.F.Files.faults
    (λ spawner. told_by (g.S.Spawner.children spawner) (g.S.Spawner.asked spawner) (g.S.Spawner.failed spawner))
    (λ dialer. told (g.D.Dialer.links dialer) (g.D.Dialer.asked dialer) (g.D.Dialer.failed dialer))
    g.C.Clock.moments g.F.Files.lent c.args.path.now c.args.world c.args.slots c.args.opened.gate opened.0
    c.args.opened.pass c.split_many.new.pass c.in-Ok.passes.items jobs.new.stock.passes.items c.requires.slots opened.2
    opened.1 many jobs.new.stock.helpers.items jobs.new.stock.peers.items jobs.result.files jobs.ensures.helpers
    jobs.ensures.peers jobs.result.all (same_passes _ _ _ _ _ _ jobs.result.all jobs.ensures.none) jobs.ensures.done

pub returns-clause-ends : goal.returns-clause-ends
returns-clause-ends g c =
    let opened = c.requires.opened in
    let many = subst (λ (count : ℕ). IsMany c.args.opened.pass count c.split_many.new.pass c.in-Ok.passes.items)
    c.workers.ensures c.in-Ok.ensures in
    let jobs = c.run_jobs-files in
    ended g.F.Files.content g.F.Files.faults
    (λ spawner. told_by (g.S.Spawner.children spawner) (g.S.Spawner.asked spawner) (g.S.Spawner.failed spawner))
    (λ dialer. told (g.D.Dialer.links dialer) (g.D.Dialer.asked dialer) (g.D.Dialer.failed dialer))
    g.C.Clock.moments g.F.Files.lent c.args.path.now c.args.world c.args.slots c.args.opened.gate opened.0
    c.args.opened.pass c.split_many.new.pass c.in-Ok.passes.items jobs.new.stock.passes.items c.requires.slots opened.2
    opened.1 many (record {
      files = jobs.result.files;
      helpers = jobs.new.stock.helpers;
      peers = jobs.new.stock.peers;
      ears = jobs.new.stock.ears;
      clock = c.args.world.clock;
      pause = c.args.world.pause;
      hasher = c.args.world.hasher;
      crew = jobs.new.crew;
      last = c.end-status.result.1;
    }) jobs.ensures.helpers jobs.ensures.peers jobs.result.all c.end-status.result.0 c.end-status.ensures.status
    (same_all _ _ _ _ _ _ jobs.result.all jobs.ensures.none) c.end-status.ensures.none jobs.ensures.done
    jobs.ensures.all jobs.ensures.one c.end-status.ensures.joined

pub returns-clause-files : goal.returns-clause-files
returns-clause-files g c =
    let opened = c.requires.opened in
    let many = subst (λ (count : ℕ). IsMany c.args.opened.pass count c.split_many.new.pass c.in-Ok.passes.items)
    c.workers.ensures c.in-Ok.ensures in
    let jobs = c.run_jobs-files in
    files_back g.F.Files.content g.F.Files.faults
    (λ spawner. told_by (g.S.Spawner.children spawner) (g.S.Spawner.asked spawner) (g.S.Spawner.failed spawner))
    (λ dialer. told (g.D.Dialer.links dialer) (g.D.Dialer.asked dialer) (g.D.Dialer.failed dialer))
    g.C.Clock.moments g.F.Files.lent c.args.path.now c.args.world c.args.slots c.args.opened.gate opened.0
    c.args.opened.pass c.split_many.new.pass c.in-Ok.passes.items jobs.new.stock.passes.items c.requires.slots opened.2
    opened.1 many jobs.new.stock.helpers.items jobs.new.stock.peers.items jobs.result.files jobs.result.all
    (same_files _ _ _ _ _ _ jobs.result.all jobs.ensures.none) jobs.ensures.done
