use Rattle.batch_cutter.specs.Plain.{AreIpv4}
use Rattle.batch_cutter.proofs.tests.values.nets.Given as goal

abbrev pub invariant-numbers : goal.invariant-numbers
invariant-numbers l = AreIpv4 l.keys.items
