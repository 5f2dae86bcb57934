use Rattle.std.proofs.Common.{take}
use Rattle.std.specs.List.{AllByRecursion}
use Rattle.book_core.specs.Changing.{IsSection}
use Rattle.book_core.proofs.routes.known_sections.Given as goal

abbrev pub invariant-sections : goal.invariant-sections
invariant-sections l = AllByRecursion IsSection (take l.section-index l.sections)
