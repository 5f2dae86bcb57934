use Rattle.attr_codec.proofs.AppendedLemmas.{appended_three}
use Rattle.update_codec.proofs.writing.frame.put_frame.Goals as goal

pub returns : goal.returns
returns c =
    appended_three _ _ _ _ _ _ _ c.put_header.ensures c.append.ensures c.append_u16.ensures
