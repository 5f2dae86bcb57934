use Rattle.health_core.proofs.CountingLemmas.{counts_none}
use Rattle.health_core.proofs.counter.Counter.new.Goals as goal

pub returns : goal.returns
returns c = counts_none c.args.rise c.args.fall
