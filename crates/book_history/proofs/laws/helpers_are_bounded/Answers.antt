use Rattle.std.proofs.Common.{refl}
use Rattle.book_history.proofs.QueueLemmas.{queues_are_bounded}
use Rattle.book_history.proofs.StartLemmas.{incarnations_count, starts_are_few}
use Rattle.book_history.proofs.laws.helpers_are_bounded.Goals as goal

pub returns : goal.returns
returns c = record {
  queues = queues_are_bounded;
  queue_room = refl;
  taken_at_once = refl;
  incarnations = incarnations_count;
  starts = starts_are_few;
}
