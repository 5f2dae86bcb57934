use Rattle.health_core.proofs.OneLemmas.{do_one, fault_once, say_one}
use Rattle.health_core.proofs.laws.health_files_say_one.Goals as goal

pub returns-clause-values : goal.returns-clause-values
returns-clause-values c = say_one

pub returns-clause-faults : goal.returns-clause-faults
returns-clause-faults c = fault_once

pub returns-clause-apart : goal.returns-clause-apart
returns-clause-apart c = do_one
