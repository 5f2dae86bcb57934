use Rattle.std.proofs.Common.{◌≡◌, ◌≤◌, length, take}
use Rattle.adj_rib_out.specs.Nodes.{is_node}
use Rattle.peer_book.specs.Nodes.{new_keys}
use Rattle.peer_book.proofs.counting.count_new.Given as goal

abbrev pub invariant-keys : goal.invariant-keys
invariant-keys l = record {
  counted : l.count ≡ length (new_keys (is_node l.table) (take l.place l.keys));
  few : l.count ≤ l.place;
}
