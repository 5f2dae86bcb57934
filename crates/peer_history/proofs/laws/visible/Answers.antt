use Rattle.peer_history.proofs.VisibleLemmas.{held_are_visible, left_are_visible}
use Rattle.peer_history.proofs.laws.visible.Goals as goal

pub returns-clause-held : goal.returns-clause-held
returns-clause-held c = held_are_visible (record {
  read = c.reading_is_spelling.ensures.effects_only;
  here_is_no_marker = c.written_is_spelled.ensures.here_is_no_marker;
  gone_is_no_marker = c.written_is_spelled.ensures.gone_is_no_marker;
})

pub returns-clause-left : goal.returns-clause-left
returns-clause-left c = left_are_visible (record {
  read = c.reading_is_spelling.ensures.effects_only;
  here_is_no_marker = c.written_is_spelled.ensures.here_is_no_marker;
  gone_is_no_marker = c.written_is_spelled.ensures.gone_is_no_marker;
})
