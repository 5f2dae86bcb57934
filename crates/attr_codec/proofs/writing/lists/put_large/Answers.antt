use Rattle.attr_codec.proofs.AppendedLemmas.{appended_three}
use Rattle.attr_codec.proofs.writing.lists.put_large.Goals as goal

pub returns : goal.returns
returns c = appended_three _ _ _ _ _ _ _ c.append_u32.ensures c.append_u32-2.ensures c.append_u32-3.ensures
