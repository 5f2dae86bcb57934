use Rattle.book_history.proofs.ReloadExampleLemmas.{reloads}
use Rattle.book_history.proofs.examples.reloads_work.Goals as goal

pub returns : goal.returns
returns c = reloads
