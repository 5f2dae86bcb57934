use Rattle.book_history.proofs.BatchExampleLemmas.{frozen_batches, lost_sessions, sent_again}
use Rattle.book_history.proofs.examples.batches_work.Goals as goal

pub returns : goal.returns
returns c = record {
  frozen = frozen_batches;
  lost = lost_sessions;
  again = sent_again;
}
