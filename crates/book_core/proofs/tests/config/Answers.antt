use Rattle.book_core.proofs.TestLemmas.{has_room}
use Rattle.book_core.proofs.tests.config.Goals as goal

pub add_neighbor-requires-clause-routes : goal.add_neighbor-requires-clause-routes
add_neighbor-requires-clause-routes c =
    has_room c.new-draft.result c.add_process.new.self c.process.result c.in_ok-neighbor.field-0.statics
    c.new-draft.ensures c.in_ok-add_process.ensures.ok c.in_ok-neighbor.ensures.bare
