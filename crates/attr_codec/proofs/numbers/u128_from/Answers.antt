use Rattle.std.proofs.Common.{◌∙◌}
use Rattle.attr_codec.proofs.numbers.u128_from.Goals as goal

pub returns : goal.returns
returns c = c.read_u128.ensures ∙ simp c.padded.ensures
