use Rattle.book_core.specs.Processes.{process_in, ReloadsTo}
use Rattle.book_core.proofs.processes.reload_helpers.Given as goal

abbrev pub invariant-helpers : goal.invariant-helpers
invariant-helpers l = ReloadsTo l.h (process_in l.processes l.places) l.initial.helpers.items l.helpers.items
