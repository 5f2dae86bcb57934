use Rattle.config_model.proofs.NumberedLemmas.{AreNumbered}
use Rattle.config_model.proofs.tests.statics.Given as goal

abbrev pub invariant-ids : goal.invariant-ids
invariant-ids l = AreNumbered l.settings l.routes l.id
