use Rattle.std.proofs.Common.{ℕ, List, subst}
use Rattle.outside.specs.Seen.{sink_seen}
use Rattle.exa_top.specs.Health.{HealthEnds}
use Rattle.exa_top.proofs.HealthLemmas.{completes, refuses, same_path}
use Rattle.exa_top.proofs.health.exabgp_health.Goals as goal

pub returns-in-Some-clause-only_usage : goal.returns-in-Some-clause-only_usage
returns-in-Some-clause-only_usage g c = λ none. absurd (none c.in-Some.path.now c.in-Some.ensures.found)

pub returns-in-Some-clause-refuses : goal.returns-in-Some-clause-refuses
returns-in-Some-clause-refuses g c = λ path fault spelled told still.
    let content = g.F.Files.content c.args.files.now in
    let checks = g.B.Probe.checks c.args.probe.now in
    let checks' = g.B.Probe.checks c.checked.new.probe in
    let sink = sink_seen g.K.Sink.taken g.K.Sink.faults c.args.output.now in
    let sink' = sink_seen g.K.Sink.taken g.K.Sink.faults c.checked.new.output in
    refuses content path checks checks' sink sink' fault (g.F.Files.faults c.args.files.now)
    (g.F.Files.faults c.checked.new.files) c.checked.result c.health_files_say_one.ensures.apart
    c.health_files_say_one.ensures.faults
    (subst (λ (at : List ℕ). HealthEnds content at checks checks' sink sink' c.checked.result)
    (same_path _ c.in-Some.path.now path c.in-Some.ensures.found spelled) c.checked.ensures.ends)
    told c.checked.ensures.config still

pub returns-in-Some-clause-complete : goal.returns-in-Some-clause-complete
returns-in-Some-clause-complete g c = λ path health spelled told still quiet.
    let content = g.F.Files.content c.args.files.now in
    let checks = g.B.Probe.checks c.args.probe.now in
    let checks' = g.B.Probe.checks c.checked.new.probe in
    let sink = sink_seen g.K.Sink.taken g.K.Sink.faults c.args.output.now in
    let sink' = sink_seen g.K.Sink.taken g.K.Sink.faults c.checked.new.output in
    completes content path checks checks' sink sink' health (g.F.Files.faults c.args.files.now)
    (g.F.Files.faults c.checked.new.files) c.checked.result c.health_files_say_one.ensures.apart
    (subst (λ (at : List ℕ). HealthEnds content at checks checks' sink sink' c.checked.result)
    (same_path _ c.in-Some.path.now path c.in-Some.ensures.found spelled) c.checked.ensures.ends)
    told c.checked.ensures.config still quiet
