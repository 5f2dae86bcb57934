use Rattle.std.proofs.Common.{◌≡◌, subst, arith}
use Rattle.book_history.specs.Bounds.{numbers_from}
use Rattle.text_history.specs.Adding.{Adding}
use Rattle.script_play.specs.Loads.{AddsAnnounce, announce_line}
use Rattle.script_play.specs.Loading.{EnteredAll}
use Rattle.script_play.proofs.LoadingLemmas.{SaysFirst, began_err, none_said, one_begun, one_said}
use Rattle.script_play.proofs.loading.announce_all.Goals as goal

pub routes-init : goal.routes-init
routes-init c = λ cfg H counted. none_said announce_line cfg H c.args.book.now c.args.tally.now counted

pub routes-preserved : goal.routes-preserved
routes-preserved c = λ cfg H counted.
    one_said announce_line cfg H c.routes.i c.routes.book c.announce.new.book c.routes.tally c.announce.new.tally
    (c.routes.invariant cfg H counted) (λ before at. c.in_ok-announce.ensures cfg before at)

pub returns-in_err-announce : goal.returns-in_err-announce
returns-in_err-announce c = λ cfg H counted.
    began_err (SaysFirst announce_line c.args.count) cfg H c.announce.new.book c.announce.new.tally
    c.from_residual.result c.from_residual.ensures.0
    (one_begun announce_line cfg H c.routes.i c.args.count c.routes.book c.announce.new.book c.routes.tally
    (omega arith) (c.routes.invariant cfg H counted) (λ before at. c.in_err-announce.ensures cfg before at))

pub returns : goal.returns
returns c = λ cfg H counted.
    let all : c.routes.i ≡ c.args.count = omega arith in
    subst (λ count. EnteredAll (λ was now. Adding AddsAnnounce was (numbers_from 0 count) now) cfg H c.routes.book
    c.routes.tally) all (c.routes.invariant cfg H counted)
