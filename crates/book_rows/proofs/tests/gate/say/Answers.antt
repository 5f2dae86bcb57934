use Rattle.std.proofs.Common.{ap, ◌∙◌}
use Rattle.book_rows.proofs.tests.gate.say.Goals as goal

pub times-preserved : goal.times-preserved
times-preserved g c = ap (λ pass. pass.gate) c.enter.ensures.entered.rest ∙ c.times.invariant
