use Rattle.script_play.proofs.CountingLemmas.{told_all}
use Rattle.script_play.proofs.counting.Tally.text.Goals as goal

pub returns : goal.returns
returns c =
    told_all c.told.result (λ text. text.items) c.args.count c.args.self.now c.len-left.result
    c.len-left.ensures.apart c.len-left.ensures.len c.told.ensures
