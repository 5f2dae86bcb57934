use Rattle.std.proofs.Common.{subst}
use Rattle.batch_cutter.specs.Grouped.{AreGrouped}
use Rattle.batch_cutter.specs.Items.{AreNumbered}
use Rattle.batch_cutter.specs.Plain.{items_left}
use Rattle.batch_cutter.proofs.PlainLemmas.{numbered, grouped}
use Rattle.batch_cutter.proofs.tests.plain.PlainBatch.due.Goals as goal

pub returns-in-Some-clause-numbered : goal.returns-in-Some-clause-numbered
returns-in-Some-clause-numbered c =
    subst (λ l. AreNumbered (items_left l)) c.self.view_is
    (numbered c.self.inside.attrs.now c.self.inside.keys.now c.self.inside.marked c.self.invariant.ipv4)

pub returns-in-Some-clause-grouped : goal.returns-in-Some-clause-grouped
returns-in-Some-clause-grouped c =
    subst (λ l. AreGrouped (items_left l)) c.self.view_is
    (grouped c.self.inside.attrs.now c.self.inside.keys.now c.self.inside.marked c.self.invariant.ipv4)
