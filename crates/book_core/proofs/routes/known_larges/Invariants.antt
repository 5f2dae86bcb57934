use Rattle.std.proofs.Common.{take}
use Rattle.std.specs.List.{AllByRecursion}
use Rattle.update_grammar.specs.Values.{IsLarge}
use Rattle.book_core.proofs.routes.known_larges.Given as goal

abbrev pub invariant-larges : goal.invariant-larges
invariant-larges l = AllByRecursion IsLarge (take l.large-index l.larges)
