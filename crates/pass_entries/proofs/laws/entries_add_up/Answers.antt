use Rattle.pass_entries.proofs.MakingLemmas.{makes_learned, makes_more, makes_none, makes_one}
use Rattle.pass_entries.proofs.laws.entries_add_up.Goals as goal

pub returns-clause-none : goal.returns-clause-none
returns-clause-none g c = makes_none

pub returns-clause-one : goal.returns-clause-one
returns-clause-one g c = makes_one _

pub returns-clause-learned : goal.returns-clause-learned
returns-clause-learned g c = makes_learned _

pub returns-clause-more : goal.returns-clause-more
returns-clause-more g c = makes_more
