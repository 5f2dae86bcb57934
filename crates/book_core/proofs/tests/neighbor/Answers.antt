use Rattle.std.proofs.Common.{refl}
use Rattle.book_core.proofs.TestLemmas.{is_neighbor}
use Rattle.book_core.proofs.tests.neighbor.Goals as goal

pub returns : goal.returns
returns c = record {
  one = is_neighbor _ c.new.result c.push.new.self c.new.ensures refl;
  bare = c.new.ensures;
}
