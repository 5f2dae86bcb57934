use Rattle.exa_top.proofs.WordLemmas.{load_none}
use Rattle.exa_top.proofs.words.load_of.Goals as goal

pub returns-in-None-clause-none : goal.returns-in-None-clause-none
returns-in-None-clause-none c = load_none _ c.in-None.ensures.none
