use Rattle.std.specs.Prelude.{◌≡◌, length}
use Rattle.exabgpd.proofs.devices.dialers_of.Given as goal

abbrev pub invariant-slots : goal.invariant-slots
invariant-slots l = length l.dialers.items ≡ l.slot
