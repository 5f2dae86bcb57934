use Rattle.std.proofs.Common.{◌∙◌, refl, arith}
use Rattle.daemon.proofs.LaysLemmas.{helpers_none, helpers_on}
use Rattle.daemon.proofs.StepLemmas.{space_stays}
use Rattle.daemon.proofs.pairs.add_slots.Goals as goal

pub slots-init : goal.slots-init
slots-init g c = record { moves = helpers_none _ _ _; never_more = omega arith; space = refl }

pub add_slot-requires-clause-two_each : goal.add_slot-requires-clause-two_each
add_slot-requires-clause-two_each g c = omega (arith, c.slots.invariant.moves.two_passes_each, c.requires.two_each)

pub add_slot-requires-clause-fresh : goal.add_slot-requires-clause-fresh
add_slot-requires-clause-fresh g c = λ places bounds. c.slots.invariant.moves.moves.still_fresh _ c.requires.fresh

pub add_slot-requires-clause-space : goal.add_slot-requires-clause-space
add_slot-requires-clause-space g c =
    λ places bounds. space_stays _ _ _ _ _ _ _ c.slots.invariant.moves.moves.counts c.requires.space
    c.slots.invariant.space

pub slots-preserved : goal.slots-preserved
slots-preserved g c =
    record {
      moves = helpers_on _ _ _ _ _ _ _ c.slots.invariant.moves c.add_slot.ensures.moves;
      never_more = omega (arith, c.slots.invariant.never_more, c.add_slot.ensures.never_more);
      space = c.add_slot.ensures.space ∙ c.slots.invariant.space;
    }

pub returns-in_err-add_slot-clause-moves : goal.returns-in_err-add_slot-clause-moves
returns-in_err-add_slot-clause-moves g c =
    helpers_on _ _ _ _ _ _ _ c.slots.invariant.moves c.add_slot.ensures.moves

pub returns-clause-moves : goal.returns-clause-moves
returns-clause-moves g c = c.slots.invariant.moves
