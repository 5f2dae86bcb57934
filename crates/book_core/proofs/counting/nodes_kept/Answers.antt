use Rattle.book_core.proofs.counting.nodes_kept.Goals as goal

pub returns : goal.returns
returns c = c.nodes_kept.ensures.told
