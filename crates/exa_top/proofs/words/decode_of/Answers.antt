use Rattle.exa_top.proofs.WordLemmas.{decode_found, decode_none}
use Rattle.exa_top.proofs.words.decode_of.Goals as goal

pub returns-in-Some-clause-found : goal.returns-in-Some-clause-found
returns-in-Some-clause-found c = decode_found _ c.in-Some.caps c.in-Some.ensures.found

pub returns-in-None-clause-none : goal.returns-in-None-clause-none
returns-in-None-clause-none c = decode_none _ c.in-None.ensures.none
