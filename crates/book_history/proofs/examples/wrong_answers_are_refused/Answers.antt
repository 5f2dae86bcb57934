use Rattle.book_history.proofs.RefusalLemmas.{full_queue_waits, refusals}
use Rattle.book_history.proofs.examples.wrong_answers_are_refused.Goals as goal

pub returns : goal.returns
returns c = record {
  answers = refusals c.whole_batches.ensures c.nothing_pending.ensures;
  queue = full_queue_waits;
}
