use Rattle.std.proofs.Common.{◌≡◌, ◌≤◌, take}
use Rattle.std.specs.Prelude.{count_by}
use Rattle.peer_book.specs.Nodes.{is_gained}
use Rattle.peer_book.proofs.counting.count_gained.Given as goal

abbrev pub invariant-keys : goal.invariant-keys
invariant-keys l = record {
  counted : l.count ≡ count_by (is_gained l.table) (take l.place l.numbers);
  few : l.count ≤ l.place;
}
