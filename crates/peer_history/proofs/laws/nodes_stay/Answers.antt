use Rattle.peer_history.proofs.NodeLemmas.{sessions_add_no_node}
use Rattle.peer_history.proofs.laws.nodes_stay.Goals as goal

pub returns : goal.returns
returns c = sessions_add_no_node (record {
  read = c.reading_is_spelling.ensures.effects_only;
  here_is_no_marker = c.written_is_spelled.ensures.here_is_no_marker;
  gone_is_no_marker = c.written_is_spelled.ensures.gone_is_no_marker;
})
