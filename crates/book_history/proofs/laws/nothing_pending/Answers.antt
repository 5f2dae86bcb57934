use Rattle.book_history.proofs.HeadlineLemmas.{nothing_pending}
use Rattle.book_history.proofs.laws.nothing_pending.Goals as goal

pub returns : goal.returns
returns c = nothing_pending c.nothing_pending.ensures
