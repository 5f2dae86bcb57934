use Rattle.std.specs.Prelude.{◌≡◌, length}
use Rattle.exabgpd.proofs.devices.ears_of.Given as goal

abbrev pub invariant-slots : goal.invariant-slots
invariant-slots l = length l.ears.items ≡ l.slot
