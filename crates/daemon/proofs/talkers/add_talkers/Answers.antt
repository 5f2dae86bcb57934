use Rattle.std.proofs.Common.{◌∙◌, refl, arith}
use Rattle.daemon.proofs.LaysLemmas.{peers_none, peers_on}
use Rattle.daemon.proofs.StepLemmas.{space_stays}
use Rattle.daemon.proofs.talkers.add_talkers.Goals as goal

pub slots-init : goal.slots-init
slots-init g c = record { moves = peers_none _ _; never_more = omega arith; space = refl }

pub add_talker-requires-clause-ears : goal.add_talker-requires-clause-ears
add_talker-requires-clause-ears g c = λ places bounds. c.slots.invariant.moves.an_ear_each c.requires.ears

pub add_talker-requires-clause-passes : goal.add_talker-requires-clause-passes
add_talker-requires-clause-passes g c = omega (arith, c.slots.invariant.moves.a_pass_each, c.requires.passes)

pub add_talker-requires-clause-fresh : goal.add_talker-requires-clause-fresh
add_talker-requires-clause-fresh g c = λ places bounds. c.slots.invariant.moves.moves.still_fresh _ c.requires.fresh

pub add_talker-requires-clause-space : goal.add_talker-requires-clause-space
add_talker-requires-clause-space g c =
    λ places bounds. space_stays _ _ _ _ _ _ _ c.slots.invariant.moves.moves.counts c.requires.space
    c.slots.invariant.space

pub slots-preserved : goal.slots-preserved
slots-preserved g c =
    record {
      moves = peers_on _ _ _ _ _ _ c.slots.invariant.moves c.add_talker.ensures.moves;
      never_more = omega (arith, c.slots.invariant.never_more, c.add_talker.ensures.never_more);
      space = c.add_talker.ensures.space ∙ c.slots.invariant.space;
    }

pub returns-in_err-add_talker-clause-moves : goal.returns-in_err-add_talker-clause-moves
returns-in_err-add_talker-clause-moves g c =
    peers_on _ _ _ _ _ _ c.slots.invariant.moves c.add_talker.ensures.moves

pub returns-in_err-add_talker-clause-space : goal.returns-in_err-add_talker-clause-space
returns-in_err-add_talker-clause-space g c = c.add_talker.ensures.space ∙ c.slots.invariant.space

pub returns-clause-moves : goal.returns-clause-moves
returns-clause-moves g c = c.slots.invariant.moves
