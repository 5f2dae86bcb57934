use Rattle.script_play.proofs.LoadingLemmas.{line_entered}
use Rattle.script_play.proofs.loading.enter.Goals as goal

pub returns : goal.returns
returns c = λ cfg H counted.
    line_entered cfg H c.args.line.now c.new-read.result.line c.new-read.result.reading c.line-given.result
    c.take.result c.take.new.self c.args.tally.now c.line.new.self c.line.result c.new-read.ensures counted.counts
    (c.take.ensures cfg _ (c.line-given.ensures cfg H counted.stands).1).1 c.line.ensures
