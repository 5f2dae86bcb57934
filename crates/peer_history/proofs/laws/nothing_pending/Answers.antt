use Rattle.peer_history.proofs.BatchLemmas.{nothing_pending}
use Rattle.peer_history.proofs.laws.nothing_pending.Goals as goal

pub returns : goal.returns
returns c = nothing_pending (record {
  read = c.reading_is_spelling.ensures.effects_only;
  here_is_no_marker = c.written_is_spelled.ensures.here_is_no_marker;
  gone_is_no_marker = c.written_is_spelled.ensures.gone_is_no_marker;
})
