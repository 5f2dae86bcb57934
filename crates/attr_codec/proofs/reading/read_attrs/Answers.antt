use Rattle.std.proofs.Common.{arith}
use Rattle.attr_codec.proofs.AttributeLemmas.{attrs_are_found, attrs_are_given}
use Rattle.attr_codec.proofs.reading.read_attrs.Goals as goal

pub returns-clause-found : goal.returns-clause-found
returns-clause-found c = attrs_are_found _ _ _ (λ i. omega (arith, c.type_inv.bytes i)) c.said_in.ensures.exact

pub returns-clause-only : goal.returns-clause-only
returns-clause-only c = λ said spelled. attrs_are_given _ _ _ said spelled c.said_in.ensures.exact
