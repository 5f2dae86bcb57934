use Rattle.helper_book.proofs.ApartLemmas.{others_leave, reloads_leave}
use Rattle.helper_book.proofs.laws.others_leave.Goals as goal

pub returns : goal.returns
returns c = record { entries = others_leave; reloads = reloads_leave }
