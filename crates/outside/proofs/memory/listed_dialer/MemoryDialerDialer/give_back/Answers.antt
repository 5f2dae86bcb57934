use Rattle.outside.specs.Links.{link_told}
use Rattle.outside.proofs.RollLemmas.{all_told_more}
use Rattle.outside.proofs.memory.listed_dialer.MemoryDialerDialer.give_back.Goals as goal

pub returns-clause-links : goal.returns-clause-links
returns-clause-links c = all_told_more link_told _ _ c.args.link c.add.ensures
