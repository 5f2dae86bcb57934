use Rattle.std.proofs.Common.{◌≡◌, ◌≤◌, length}
use Rattle.std.specs.Prelude.{reverse, vec_capacity}
use Rattle.crew.specs.Views.{jobs_of}
use Rattle.daemon.specs.Making.{MovesHelpers}
use Rattle.daemon.proofs.pairs.add_slots.Given as goal

-- the jobs of the last slots were made
abbrev pub invariant-slots : goal.invariant-slots
invariant-slots g l = record {
  moves : MovesHelpers l.fn.clock l.initial.stock (reverse (jobs_of l.initial.places.items)) l.stock
      (reverse (jobs_of l.places.items));
  never_more : length l.stock.helpers.items ≤ length l.initial.stock.helpers.items;
  space : vec_capacity l.places ≡ vec_capacity l.initial.places;
}

abbrev pub decreases-slots : goal.decreases-slots
decreases-slots g l = length l.stock.helpers.items
