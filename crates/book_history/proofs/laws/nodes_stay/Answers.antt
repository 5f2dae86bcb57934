use Rattle.book_history.proofs.NodeLemmas.{sessions_add_no_node}
use Rattle.book_history.proofs.laws.nodes_stay.Goals as goal

pub returns : goal.returns
returns c = sessions_add_no_node c.nodes_stay.ensures
