use Rattle.std.proofs.Common.{arith}
use Rattle.helper_worker.specs.Rounds.{told as told_by}
use Rattle.peer_worker.specs.Rounds.{told}
use Rattle.daemon.proofs.EndingLemmas.{ends_on, unread}
use Rattle.daemon.proofs.run.run_file.Goals as goal

pub returns-in-Err-clause-ends : goal.returns-in-Err-clause-ends
returns-in-Err-clause-ends g c =
    unread g.F.Files.content g.F.Files.faults
    (λ spawner. told_by (g.S.Spawner.children spawner) (g.S.Spawner.asked spawner) (g.S.Spawner.failed spawner))
    (λ dialer. told (g.D.Dialer.links dialer) (g.D.Dialer.asked dialer) (g.D.Dialer.failed dialer))
    g.C.Clock.moments c.args.path.now c.args.world c.read_config_at.new.files _ c.in-Err.why c.status_of.result
    c.status_of.ensures
    (omega (arith, c.len.ensures, c.args.world.helpers.ok.0), omega (arith, c.len-2.ensures, c.args.world.peers.ok.0))
    c.in-Err.ensures.none
    (λ is. c.in-Err.ensures.count (cc)) (λ other. c.in-Err.ensures.same (λ is. other (cc)))

pub returns-in-Some-clause-ends : goal.returns-in-Some-clause-ends
returns-in-Some-clause-ends g c =
    ends_on g.F.Files.content g.F.Files.faults
    (λ spawner. told_by (g.S.Spawner.children spawner) (g.S.Spawner.asked spawner) (g.S.Spawner.failed spawner))
    (λ dialer. told (g.D.Dialer.links dialer) (g.D.Dialer.asked dialer) (g.D.Dialer.failed dialer))
    g.C.Clock.moments c.args.path.now c.args.world c.read_config_at.new.files c.run_gate.result.status
    c.run_gate.result.world c.in-Ok.ensures.content (c.in-Ok.ensures.same (λ none. cc)) c.run_gate.ensures.ends
