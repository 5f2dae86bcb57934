use Rattle.std.proofs.Common.{rules}
use Rattle.route_values.proofs.OctetsLemmas.{held_is, stored}
use Rattle.route_values.proofs.prefix.Prefix.new.Goals as goal

pub invariant_of-result : goal.invariant_of-result
invariant_of-result c =
    stored c.args.addr c.args.len c.family.result c.octets_of.result c.family.ensures c.octets_of.ensures (search rules)

pub returns-then-is_prefix : goal.returns-then-is_prefix
returns-then-is_prefix c =
    let held = held_is c.args.addr c.family.result c.octets_of.result c.family.ensures c.octets_of.ensures in
    (search rules, λ i. record { addr = held i; len = c.args.len })
