use Rattle.std.proofs.Common.{◌≡◌, ◌≤◌, take}
use Rattle.std.specs.Prelude.{count_by}
use Rattle.peer_book.specs.Nodes.{is_lost_row}
use Rattle.peer_book.proofs.counting.count_lost.Given as goal

abbrev pub invariant-places : goal.invariant-places
invariant-places l = record {
  counted : l.count ≡ count_by (is_lost_row l.numbers l.table) (take l.place l.table.rows);
  few : l.count ≤ l.place;
}
