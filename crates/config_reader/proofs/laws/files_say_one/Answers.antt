use Rattle.config_reader.proofs.OutcomeLemmas.{do_one, fault_once, give_one}
use Rattle.config_reader.proofs.laws.files_say_one.Goals as goal

pub returns-clause-values : goal.returns-clause-values
returns-clause-values c = give_one

pub returns-clause-faults : goal.returns-clause-faults
returns-clause-faults c = fault_once

pub returns-clause-apart : goal.returns-clause-apart
returns-clause-apart c = do_one
