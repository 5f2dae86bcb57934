use Rattle.std.proofs.Common.{arith}
use Rattle.std.proofs.lemmas.List.{take_rest}
use Rattle.outside.proofs.GivingLemmas.{front_fits, given_more, left_less}
use Rattle.outside.proofs.memory.sure_source.SureSourceSource.read.Goals as goal

pub returns-clause-bytes : goal.returns-clause-bytes
returns-clause-bytes c =
    let source = c.args.self.now in
    let copied = rw take_rest at c.copy_from_slice.ensures.after in (
      omega arith,
      front_fits source.content.now _ _ source.at c.min-count.result copied (omega arith),
      given_more source.content.now _ _ source.at c.min-count.result copied (omega arith),
    )

pub returns-clause-left : goal.returns-clause-left
returns-clause-left c =
    let source = c.args.self.now in
    let copied = rw take_rest at c.copy_from_slice.ensures.after in
    left_less source.content.now _ _ source.at c.min-count.result copied (omega arith)
