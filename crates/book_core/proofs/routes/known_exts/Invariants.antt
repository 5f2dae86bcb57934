use Rattle.std.proofs.Common.{take}
use Rattle.std.specs.List.{AllByRecursion}
use Rattle.update_grammar.specs.Values.{IsExt}
use Rattle.book_core.proofs.routes.known_exts.Given as goal

abbrev pub invariant-exts : goal.invariant-exts
invariant-exts l = AllByRecursion IsExt (take l.ext-index l.exts)
