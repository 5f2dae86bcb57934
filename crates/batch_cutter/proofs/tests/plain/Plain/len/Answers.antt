use Rattle.std.proofs.Common.{subst}
use Rattle.batch_cutter.specs.Filling.{CanFill}
use Rattle.batch_cutter.specs.Plain.{items_left}
use Rattle.batch_cutter.proofs.PlainLemmas.{can_fill}
use Rattle.batch_cutter.proofs.tests.plain.Plain.len.Goals as goal

pub returns : goal.returns
returns c =
    subst (λ l. CanFill (items_left l)) c.self.view_is
    (can_fill c.self.inside.attrs.now c.self.inside.keys.now c.self.inside.marked c.self.invariant)
