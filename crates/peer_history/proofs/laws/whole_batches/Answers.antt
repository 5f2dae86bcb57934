use Rattle.peer_history.proofs.BatchLemmas.{whole_batches}
use Rattle.peer_history.proofs.laws.whole_batches.Goals as goal

pub returns : goal.returns
returns c = whole_batches (record {
  read = c.reading_is_spelling.ensures.effects_only;
  here_is_no_marker = c.written_is_spelled.ensures.here_is_no_marker;
  gone_is_no_marker = c.written_is_spelled.ensures.gone_is_no_marker;
})
