use Rattle.std.proofs.Common.{rules}
use Rattle.update_codec.proofs.WrittenLemmas.{length-end}
use Rattle.update_codec.proofs.writing.opening.put_end_of_rib.Goals as goal

pub returns-clause-fits : goal.returns-clause-fits
returns-clause-fits c = λ caps. rw (length-end caps c.args.family) (search rules)
