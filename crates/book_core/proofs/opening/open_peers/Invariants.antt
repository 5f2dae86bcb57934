use Rattle.std.specs.Prelude.{◌≡◌, length, slice_get}
use Rattle.book_core.specs.declared.peering.Peering.{Peering}
use Rattle.book_core.specs.Opening.{Opens}
use Rattle.book_core.proofs.OpeningLemmas.{EachIs}
use Rattle.book_core.proofs.opening.open_peers.Given as goal

abbrev pub invariant-peers : goal.invariant-peers
invariant-peers l =
    (length l.peers.items ≡ l.n) × EachIs (λ n (is : Peering). Opens (slice_get l.sections n) is) l.peers.items
