use Rattle.script_play.specs.Loads.{AreCut}
use Rattle.script_play.proofs.LoadingLemmas.{began_err, draining_begun, draining_end, draining_left, draining_more}
use Rattle.script_play.proofs.LoadingLemmas.{draining_none, draining_unbegun}
use Rattle.script_play.proofs.loading.drain.Goals as goal

pub returns-in_err-buffer : goal.returns-in_err-buffer
returns-in_err-buffer c = λ cfg H counted.
    began_err AreCut cfg H c.args.book.now c.args.tally.now c.from_residual.result c.from_residual.ensures.0
    (draining_unbegun cfg H c.args.book.now c.args.tally.now counted)

pub cuts-init : goal.cuts-init
cuts-init c = λ cfg H counted. draining_none cfg H c.args.book.now c.args.tally.now counted

pub cuts-preserved : goal.cuts-preserved
cuts-preserved c = λ cfg H counted.
    draining_more cfg H c.cuts.book c.cut.new.book c.cuts.tally c.cut.new.tally c.in_ok-came.came
    c.if-not-came.false (c.cuts.invariant cfg H counted) (λ before at. c.in_ok-came.ensures cfg before at)

pub returns-in_err-came : goal.returns-in_err-came
returns-in_err-came c = λ cfg H counted.
    began_err AreCut cfg H c.cut.new.book c.cut.new.tally c.from_residual-in_err-came.result
    c.from_residual-in_err-came.ensures.0
    (draining_begun cfg H c.cuts.book c.cut.new.book c.cuts.tally (c.cuts.invariant cfg H counted)
    (λ before at. c.in_err-came.ensures cfg before at))

pub returns-then-not-came : goal.returns-then-not-came
returns-then-not-came c = λ cfg H counted.
    draining_end cfg H c.cuts.book c.cut.new.book c.cuts.tally c.cut.new.tally c.in_ok-came.came c.if-not-came.true
    (c.cuts.invariant cfg H counted) (λ before at. c.in_ok-came.ensures cfg before at)

pub returns : goal.returns
returns c = λ cfg H counted.
    draining_left cfg H c.cuts.book c.cuts.tally (c.cuts.invariant cfg H counted)
