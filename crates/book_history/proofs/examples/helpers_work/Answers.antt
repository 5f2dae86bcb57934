use Rattle.book_history.proofs.HelperExampleLemmas.{few_starts, helpers_gone, switched_replies}
use Rattle.book_history.proofs.examples.helpers_work.Goals as goal

pub returns : goal.returns
returns c = record {
  starts = few_starts;
  gone = helpers_gone;
  replies = switched_replies;
}
