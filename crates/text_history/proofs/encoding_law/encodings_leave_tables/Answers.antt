use Rattle.text_history.proofs.LeavingLemmas.{leave_tables}
use Rattle.text_history.proofs.encoding_law.encodings_leave_tables.Goals as goal

pub returns : goal.returns
returns c =
    leave_tables (record {
      read = c.reading_is_spelling.ensures.effects_only;
      here_is_no_marker = c.written_is_spelled.ensures.here_is_no_marker;
      gone_is_no_marker = c.written_is_spelled.ensures.gone_is_no_marker;
    }) c.written_is_spelled.ensures.end c.whole_batches.ensures c.batches_are_packed.ensures c.nothing_pending.ensures
