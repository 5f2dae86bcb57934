use Rattle.attr_codec.proofs.SizeLemmas.{length-exts_text}
use Rattle.attr_codec.proofs.writing.lengths.exts_len.Goals as goal

pub returns-clause-eight : goal.returns-clause-eight
returns-clause-eight c = length-exts_text c.args.exts.now c.told-exts
