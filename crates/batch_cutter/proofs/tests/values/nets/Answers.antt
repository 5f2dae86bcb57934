use Rattle.std.proofs.Common.{List, sym, subst}
use Rattle.route_values.specs.declared.key.Key.{Key}
use Rattle.batch_cutter.specs.Plain.{AreIpv4}
use Rattle.batch_cutter.proofs.PlainLemmas.{ipv4_more}
use Rattle.batch_cutter.proofs.tests.values.nets.Goals as goal

pub numbers-preserved : goal.numbers-preserved
numbers-preserved c =
    subst (λ (keys : List Key). AreIpv4 keys) (sym c.in_ok-push.ensures.items)
    (ipv4_more c.numbers.keys.items c.in_ok-key.key c.numbers.invariant c.in_ok-key.ensures)
