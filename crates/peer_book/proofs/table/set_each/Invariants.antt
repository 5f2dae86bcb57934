use Rattle.std.proofs.Common.{take}
use Rattle.std.specs.Option.{option_map}
use Rattle.adj_rib_out.specs.State.{value_at, route_of}
use Rattle.peer_book.specs.Tables.{SetsEach, AreKeys}
use Rattle.peer_book.proofs.table.set_each.Given as goal

abbrev pub invariant-keys : goal.invariant-keys
invariant-keys l = record {
  sets : SetsEach l.fn.table l.table (take l.key-index l.keys)
      (option_map (λ written. route_of l.fn.table.side written l.owner) (value_at l.fn.table l.number));
  known : AreKeys (take l.key-index l.keys);
}
