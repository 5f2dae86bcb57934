use Rattle.std.proofs.Common.{take, None}
use Rattle.peer_book.specs.Tables.{SetsEach}
use Rattle.peer_book.proofs.table.unset_each.Given as goal

abbrev pub invariant-keys : goal.invariant-keys
invariant-keys l = SetsEach l.fn.table l.table (take l.key-index l.keys) None
