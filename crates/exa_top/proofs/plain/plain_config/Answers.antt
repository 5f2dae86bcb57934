use Rattle.exa_top.proofs.PlainLemmas.{plain_is}
use Rattle.exa_top.proofs.plain.plain_config.Goals as goal

pub add_neighbor-requires-clause-section : goal.add_neighbor-requires-clause-section
add_neighbor-requires-clause-section c = plain_is _ _ _ _ c.in_ok-neighbor.ensures
