use Rattle.book_history.proofs.EndExampleLemmas.{ends}
use Rattle.book_history.proofs.examples.ends_work.Goals as goal

pub returns : goal.returns
returns c = ends
