use Rattle.std.proofs.Common.{length}
use Rattle.text_forms.specs.Ipv6.{AreColoned}
use Rattle.text_forms.proofs.groups.coloned.Given as goal

abbrev pub invariant-groups : goal.invariant-groups
invariant-groups l = AreColoned l.text l.groups.items l.rest

abbrev pub decreases-groups : goal.decreases-groups
decreases-groups l = length l.rest
