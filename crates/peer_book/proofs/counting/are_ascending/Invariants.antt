use Rattle.std.proofs.Common.{◌≡◌, true}
use Rattle.std.specs.List.{AllAdjacentBelow}
use Rattle.std.specs.Ordering.{is_lt}
use Rattle.route_values.specs.contracts.key.KeyOrd.TheImpl.{ghosts as order}
use Rattle.peer_book.proofs.counting.are_ascending.Given as goal

abbrev pub invariant-keys : goal.invariant-keys
invariant-keys l = AllAdjacentBelow (λ one other. is_lt (order.cmp one other) ≡ true) l.keys l.place
