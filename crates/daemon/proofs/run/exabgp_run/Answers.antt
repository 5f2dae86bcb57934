use Rattle.std.proofs.Common.{sym, ◌∙◌}
use Rattle.helper_worker.specs.Rounds.{told as told_by}
use Rattle.peer_worker.specs.Rounds.{told}
use Rattle.daemon.proofs.AnswerLemmas.{by_path, completes, no_usage, refuses}
use Rattle.daemon.proofs.run.exabgp_run.Goals as goal

pub returns-in-Some-clause-usage : goal.returns-in-Some-clause-usage
returns-in-Some-clause-usage g c usage path is =
    no_usage g.F.Files.content g.F.Files.faults
    (λ spawner. told_by (g.S.Spawner.children spawner) (g.S.Spawner.asked spawner) (g.S.Spawner.failed spawner))
    (λ dialer. told (g.D.Dialer.links dialer) (g.D.Dialer.asked dialer) (g.D.Dialer.failed dialer))
    g.C.Clock.moments c.in-Some.path.now c.args.world c.run_file.result.status c.run_file.result.world
    c.run_file.ensures.ends usage

pub returns-in-Some-clause-only_usage : goal.returns-in-Some-clause-only_usage
returns-in-Some-clause-only_usage g c none = absurd (none c.in-Some.path.now c.in-Some.ensures.some)

pub returns-in-Some-clause-same : goal.returns-in-Some-clause-same
returns-in-Some-clause-same g c usage =
    absurd (no_usage g.F.Files.content g.F.Files.faults
    (λ spawner. told_by (g.S.Spawner.children spawner) (g.S.Spawner.asked spawner) (g.S.Spawner.failed spawner))
    (λ dialer. told (g.D.Dialer.links dialer) (g.D.Dialer.asked dialer) (g.D.Dialer.failed dialer))
    g.C.Clock.moments c.in-Some.path.now c.args.world c.run_file.result.status c.run_file.result.world
    c.run_file.ensures.ends usage)

pub returns-in-Some-clause-ends : goal.returns-in-Some-clause-ends
returns-in-Some-clause-ends g c path is =
    by_path g.F.Files.content g.F.Files.faults
    (λ spawner. told_by (g.S.Spawner.children spawner) (g.S.Spawner.asked spawner) (g.S.Spawner.failed spawner))
    (λ dialer. told (g.D.Dialer.links dialer) (g.D.Dialer.asked dialer) (g.D.Dialer.failed dialer))
    g.C.Clock.moments c.in-Some.path.now c.args.world c.run_file.result.status c.run_file.result.world path
    (sym c.in-Some.ensures.some ∙ is) c.run_file.ensures.ends

pub returns-in-Some-clause-refuses : goal.returns-in-Some-clause-refuses
returns-in-Some-clause-refuses g c path fault is has quiet crewed =
    refuses g.F.Files.content g.F.Files.faults
    (λ spawner. told_by (g.S.Spawner.children spawner) (g.S.Spawner.asked spawner) (g.S.Spawner.failed spawner))
    (λ dialer. told (g.D.Dialer.links dialer) (g.D.Dialer.asked dialer) (g.D.Dialer.failed dialer))
    g.C.Clock.moments path c.args.world c.run_file.result.world quiet crewed c.files_say_one.ensures.faults
    c.files_say_one.ensures.apart fault has c.run_file.result.status
    (by_path g.F.Files.content g.F.Files.faults
    (λ spawner. told_by (g.S.Spawner.children spawner) (g.S.Spawner.asked spawner) (g.S.Spawner.failed spawner))
    (λ dialer. told (g.D.Dialer.links dialer) (g.D.Dialer.asked dialer) (g.D.Dialer.failed dialer))
    g.C.Clock.moments c.in-Some.path.now c.args.world c.run_file.result.status c.run_file.result.world path
    (sym c.in-Some.ensures.some ∙ is) c.run_file.ensures.ends)

pub returns-in-Some-clause-complete : goal.returns-in-Some-clause-complete
returns-in-Some-clause-complete g c path is has quiet crewed =
    completes g.F.Files.content g.F.Files.faults
    (λ spawner. told_by (g.S.Spawner.children spawner) (g.S.Spawner.asked spawner) (g.S.Spawner.failed spawner))
    (λ dialer. told (g.D.Dialer.links dialer) (g.D.Dialer.asked dialer) (g.D.Dialer.failed dialer))
    g.C.Clock.moments path c.args.world c.run_file.result.world quiet crewed c.files_say_one.ensures.apart has
    c.run_file.result.status
    (by_path g.F.Files.content g.F.Files.faults
    (λ spawner. told_by (g.S.Spawner.children spawner) (g.S.Spawner.asked spawner) (g.S.Spawner.failed spawner))
    (λ dialer. told (g.D.Dialer.links dialer) (g.D.Dialer.asked dialer) (g.D.Dialer.failed dialer))
    g.C.Clock.moments c.in-Some.path.now c.args.world c.run_file.result.status c.run_file.result.world path
    (sym c.in-Some.ensures.some ∙ is) c.run_file.ensures.ends)
