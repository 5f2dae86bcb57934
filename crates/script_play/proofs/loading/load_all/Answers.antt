use Rattle.script_play.specs.Loading.{IsTold}
use Rattle.script_play.proofs.LoadingLemmas.{began_some, start_counted, told_by}
use Rattle.script_play.proofs.loading.load_all.Goals as goal

pub returns-in_err-enter_all : goal.returns-in_err-enter_all
returns-in_err-enter_all c = λ cfg stands.
    let begins = c.begin.ensures cfg stands in
    began_some cfg c.args.count begins.started begins.raised c.enter_all.new.book c.from_residual.result
    (λ text. IsTold cfg c.args.count c.enter_all.new.book text.items) c.from_residual.ensures.0
    (c.in_err-enter_all.ensures cfg _
    (start_counted cfg c.begin.new.book c.new-tally.result begins c.new-tally.ensures))

pub returns : goal.returns
returns c = λ cfg stands.
    let begins = c.begin.ensures cfg stands in
    told_by cfg c.args.count begins.started begins.raised c.enter_all.new.book c.enter_all.new.tally c.text.result
    (λ text. text.items)
    (c.in_ok-enter_all.ensures cfg _
    (start_counted cfg c.begin.new.book c.new-tally.result begins c.new-tally.ensures)) c.text.ensures
