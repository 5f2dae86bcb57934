use Rattle.script_play.specs.Loads.{IsEntered}
use Rattle.script_play.proofs.LoadingLemmas.{all_entered, began_err, begun_first, begun_second, begun_third}
use Rattle.script_play.proofs.loading.enter_all.Goals as goal

pub returns-in_err-announce_all : goal.returns-in_err-announce_all
returns-in_err-announce_all c = λ cfg H counted.
    began_err (IsEntered c.args.count) cfg H c.announce_all.new.book c.announce_all.new.tally c.from_residual.result
    c.from_residual.ensures.0
    (begun_first c.args.count cfg H c.announce_all.new.book (c.in_err-announce_all.ensures cfg H counted))

pub returns-in_err-drain : goal.returns-in_err-drain
returns-in_err-drain c = λ cfg H counted.
    began_err (IsEntered c.args.count) cfg H c.drain.new.book c.drain.new.tally c.from_residual-in_err-drain.result
    c.from_residual-in_err-drain.ensures.0
    (begun_second c.args.count cfg H c.announce_all.new.book c.drain.new.book c.announce_all.new.tally
    (c.in_ok-announce_all.ensures cfg H counted) (λ before at. c.in_err-drain.ensures cfg before at))

pub returns-in_err-withdraw_all : goal.returns-in_err-withdraw_all
returns-in_err-withdraw_all c = λ cfg H counted.
    began_err (IsEntered c.args.count) cfg H c.withdraw_all.new.book c.withdraw_all.new.tally
    c.from_residual-in_err-withdraw_all.result c.from_residual-in_err-withdraw_all.ensures.0
    (begun_third c.args.count cfg H c.announce_all.new.book c.drain.new.book c.withdraw_all.new.book
    c.announce_all.new.tally c.drain.new.tally (c.in_ok-announce_all.ensures cfg H counted)
    (λ before at. c.in_ok-drain.ensures cfg before at) (λ before at. c.in_err-withdraw_all.ensures cfg before at))

pub returns : goal.returns
returns c = λ cfg H counted.
    all_entered c.args.count cfg H c.announce_all.new.book c.drain.new.book c.withdraw_all.new.book c.drain-2.new.book
    c.announce_all.new.tally c.drain.new.tally c.withdraw_all.new.tally c.drain-2.new.tally c.drain-2.result
    (c.in_ok-announce_all.ensures cfg H counted) (λ before at. c.in_ok-drain.ensures cfg before at)
    (λ before at. c.in_ok-withdraw_all.ensures cfg before at) (λ before at. c.drain-2.ensures cfg before at)
