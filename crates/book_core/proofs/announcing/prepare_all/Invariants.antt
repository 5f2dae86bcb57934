use Rattle.std.specs.Prelude.{◌≡◌, length}
use Rattle.config_model.specs.Limits.{max_peers}
use Rattle.book_core.specs.Announcing.{AreReadied}
use Rattle.book_core.specs.Moves.{MovesBelow, nothing}
use Rattle.book_core.proofs.announcing.prepare_all.Given as goal

abbrev pub invariant-peers : goal.invariant-peers
invariant-peers l = record {
  moved : MovesBelow l.n nothing l.initial.peers.items l.peers.items;
  readied : AreReadied l.n l.peers.items l.chosen l.keys l.written l.numbers;
  many : length l.numbers ≡ max_peers;
}
