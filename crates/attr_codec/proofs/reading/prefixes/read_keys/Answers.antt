use Rattle.std.proofs.Common.{arith}
use Rattle.attr_codec.proofs.KeysLemmas.{keys_are_found, keys_are_given}
use Rattle.attr_codec.proofs.reading.prefixes.read_keys.Goals as goal

pub returns-clause-found : goal.returns-clause-found
returns-clause-found c = keys_are_found _ _ _ _ (λ i. omega (arith, c.type_inv.bytes i)) c.keys_in.ensures.exact

pub returns-clause-only : goal.returns-clause-only
returns-clause-only c = λ keys spelled. keys_are_given _ _ _ _ keys spelled c.keys_in.ensures.exact
