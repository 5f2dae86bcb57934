use Rattle.std.proofs.Common.{not, ap, ◌∙◌}
use Rattle.peer_book.specs.Numbers.{is_helpers}
use Rattle.peer_book.proofs.keeping.is_helpers.Goals as goal

pub returns-in-Some : goal.returns-in-Some
returns-in-Some c = ap not c.is_static.ensures ∙ ap is_helpers c.in-Some.ensures

pub returns-in-None : goal.returns-in-None
returns-in-None c = ap is_helpers c.in-None.ensures
