use Rattle.outside.proofs.ProbeLemmas.{check_told}
use Rattle.outside.proofs.memory.listed_probe.MemoryProbeProbe.check.Goals as goal

pub returns-clause-checks : goal.returns-clause-checks
returns-clause-checks c =
    check_told _ _ (record { run = c.kept.result; outcome = c.next-outcome.result }) c.args.run.now c.kept.ensures
    c.add.ensures
