use Rattle.outside.specs.Links.{sure_link_told}
use Rattle.outside.proofs.RollLemmas.{all_told_more}
use Rattle.outside.proofs.memory.sure_dialer.SureDialerDialer.give_back.Goals as goal

pub returns-clause-links : goal.returns-clause-links
returns-clause-links c = all_told_more sure_link_told _ _ c.args.link c.add.ensures
