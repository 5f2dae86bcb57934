use Rattle.book_history.proofs.HeadlineLemmas.{whole_batches}
use Rattle.book_history.proofs.laws.whole_batches.Goals as goal

pub returns : goal.returns
returns c = whole_batches c.whole_batches.ensures c.batches_are_packed.ensures
