use Rattle.book_gate_many.specs.Tallies.{IsTotal}
use Rattle.book_gate_many.proofs.AddingLemmas.{adds_both, adds_one}
use Rattle.book_gate_many.proofs.adding.add.Goals as goal

pub loop-i-preserved : goal.loop-i-preserved
loop-i-preserved g c =
    adds_both c.args.pass.now c.loop-i.pass c.enter.new.pass c.loop-i.i 1 c.loop-i.invariant
    (adds_one IsTotal c.loop-i.pass c.enter.new.pass c.enter.result c.enter.ensures.entered)
