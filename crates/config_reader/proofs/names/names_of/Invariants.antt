use Rattle.std.proofs.Common.{◌≡◌, take}
use Rattle.config_reader.specs.Neighbors.{names_of}
use Rattle.config_reader.proofs.names.names_of.Given as goal

abbrev pub invariant-heard : goal.invariant-heard
invariant-heard l = l.known.keys ≡ names_of (take l.one-index l.heard)
