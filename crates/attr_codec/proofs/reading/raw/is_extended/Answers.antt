use Rattle.std.proofs.Common.{arith}
use Rattle.std.proofs.lemmas.Bool.Decides.{nat_tests}
use Rattle.std.proofs.lemmas.Nat.Bits.{and_pow}
use Rattle.attr_codec.proofs.reading.raw.is_extended.Goals as goal

pub returns : goal.returns
returns c = let bit = and_pow c.args.flags 4 in grind (arith, nat_tests)
