use Rattle.std.specs.Prelude.{◌≡◌, length}
use Rattle.exabgpd.proofs.devices.spawners_of.Given as goal

abbrev pub invariant-slots : goal.invariant-slots
invariant-slots l = length l.spawners.items ≡ l.slot
