use Rattle.std.proofs.Common.{◌≡◌, false, take}
use Rattle.peer_history.specs.Keys.{is_named}
use Rattle.peer_book.proofs.counting.is_named.Given as goal

abbrev pub invariant-keys : goal.invariant-keys
invariant-keys l = is_named (take l.other-index l.keys) l.key ≡ false
