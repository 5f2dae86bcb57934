use Rattle.std.proofs.Common.{subst}
use Rattle.book_gate_many.specs.Adding.{Adds}
use Rattle.book_gate_many.proofs.AddingLemmas.{adds_both}
use Rattle.book_gate_many.proofs.mail.correspond.Goals as goal

pub loop-i-preserved : goal.loop-i-preserved
loop-i-preserved g c = (
  adds_both c.args.pass c.loop-i.pass c.read.new.pass 0 0 c.loop-i.invariant.0
      (subst (λ pass. Adds 0 pass c.read.new.pass) c.write.ensures c.read.ensures.goes_on),
  λ _. c.read.ensures.told,
)
