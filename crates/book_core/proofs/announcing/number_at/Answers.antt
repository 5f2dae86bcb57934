use Rattle.std.proofs.Common.{refl}
use Rattle.book_core.proofs.announcing.number_at.Goals as goal

pub returns : goal.returns
returns c = refl
