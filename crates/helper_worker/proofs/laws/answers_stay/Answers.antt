use Rattle.helper_worker.proofs.StayLemmas.{answers_stay}
use Rattle.helper_worker.proofs.laws.answers_stay.Goals as goal

pub returns : goal.returns
returns c = answers_stay
