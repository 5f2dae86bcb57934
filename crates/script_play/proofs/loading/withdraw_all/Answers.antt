use Rattle.std.proofs.Common.{◌≡◌, ◌*◌, subst, arith}
use Rattle.book_history.specs.Bounds.{numbers_from}
use Rattle.text_history.specs.Adding.{Adding}
use Rattle.script_play.specs.Loads.{AddsWithdraw, withdraw_line}
use Rattle.script_play.specs.Loading.{EnteredAll}
use Rattle.script_play.proofs.LoadingLemmas.{SaysFirst, began_err, none_said, one_begun, one_said}
use Rattle.script_play.proofs.loading.withdraw_all.Goals as goal

pub routes-init : goal.routes-init
routes-init c = λ cfg H counted. none_said (λ i. withdraw_line (2 * i)) cfg H c.args.book.now c.args.tally.now counted

pub routes-preserved : goal.routes-preserved
routes-preserved c = λ cfg H counted.
    one_said (λ i. withdraw_line (2 * i)) cfg H c.routes.i c.routes.book c.withdraw.new.book c.routes.tally
    c.withdraw.new.tally
    (c.routes.invariant cfg H counted) (λ before at. c.in_ok-withdraw.ensures cfg before at)

pub returns-in_err-withdraw : goal.returns-in_err-withdraw
returns-in_err-withdraw c = λ cfg H counted.
    began_err (SaysFirst (λ i. withdraw_line (2 * i)) c.args.count) cfg H c.withdraw.new.book c.withdraw.new.tally
    c.from_residual.result c.from_residual.ensures.0
    (one_begun (λ i. withdraw_line (2 * i)) cfg H c.routes.i c.args.count c.routes.book c.withdraw.new.book
    c.routes.tally (omega arith) (c.routes.invariant cfg H counted)
    (λ before at. c.in_err-withdraw.ensures cfg before at))

pub returns : goal.returns
returns c = λ cfg H counted.
    let all : c.routes.i ≡ c.args.count = omega arith in
    subst (λ count. EnteredAll (λ was now. Adding AddsWithdraw was (numbers_from 0 count) now) cfg H c.routes.book
    c.routes.tally) all (c.routes.invariant cfg H counted)
