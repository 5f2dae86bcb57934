use Rattle.std.proofs.Common.{ap, ◌∙◌}
use Rattle.book_rows.proofs.tests.gate.takes.Goals as goal

pub times-preserved : goal.times-preserved
times-preserved g c = ap (λ pass. pass.gate) c.enter-take.ensures.entered.rest ∙ c.times.invariant
