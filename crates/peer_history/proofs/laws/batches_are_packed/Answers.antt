use Rattle.peer_history.proofs.PackedLemmas.{batches_are_packed}
use Rattle.peer_history.proofs.laws.batches_are_packed.Goals as goal

pub returns : goal.returns
returns c = batches_are_packed
