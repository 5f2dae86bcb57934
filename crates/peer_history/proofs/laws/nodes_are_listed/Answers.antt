use Rattle.peer_history.proofs.OrderedLemmas.{wanted_are_listed, nodes_are_listed}
use Rattle.peer_history.proofs.laws.nodes_are_listed.Goals as goal

pub returns-clause-wanted : goal.returns-clause-wanted
returns-clause-wanted c = wanted_are_listed

pub returns-clause-nodes : goal.returns-clause-nodes
returns-clause-nodes c = nodes_are_listed (record {
  read = c.reading_is_spelling.ensures.effects_only;
  here_is_no_marker = c.written_is_spelled.ensures.here_is_no_marker;
  gone_is_no_marker = c.written_is_spelled.ensures.gone_is_no_marker;
})
