use Rattle.std.proofs.Common.{◌≡◌, ◌≤◌, length}
use Rattle.std.specs.Prelude.{reverse, vec_capacity}
use Rattle.crew.specs.Views.{jobs_of}
use Rattle.daemon.specs.Making.{MovesPeers}
use Rattle.daemon.proofs.talkers.add_talkers.Given as goal

-- the jobs of the last slots were made
abbrev pub invariant-slots : goal.invariant-slots
invariant-slots g l = record {
  moves : MovesPeers l.initial.stock (reverse (jobs_of l.initial.places.items)) l.stock
      (reverse (jobs_of l.places.items));
  never_more : length l.stock.peers.items ≤ length l.initial.stock.peers.items;
  space : vec_capacity l.places ≡ vec_capacity l.initial.places;
}

abbrev pub decreases-slots : goal.decreases-slots
decreases-slots g l = length l.stock.peers.items
