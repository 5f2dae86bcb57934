use Rattle.std.proofs.Common.{◌≡◌, take}
use Rattle.book_core.proofs.names.copy_names.Given as goal

abbrev pub invariant-names : goal.invariant-names
invariant-names l = l.copied ≡ take l.name-index l.names
