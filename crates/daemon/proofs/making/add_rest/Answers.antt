use Rattle.std.proofs.Common.{ap, length, arith}
use Rattle.daemon.proofs.LaysLemmas.{lays, moves_on, no_length}
use Rattle.daemon.proofs.StepLemmas.{space_stays}
use Rattle.daemon.proofs.making.add_rest.Goals as goal

pub returns-in_err-add_talkers-clause-moves : goal.returns-in_err-add_talkers-clause-moves
returns-in_err-add_talkers-clause-moves g c = c.add_talkers.ensures.moves.moves

pub add_slots-requires-clause-two_each : goal.add_slots-requires-clause-two_each
add_slots-requires-clause-two_each g c =
    omega (
      arith,
      c.add_talkers.ensures.moves.a_pass_each,
      ap length c.add_talkers.ensures.moves.same_helpers,
      c.requires.passes,
      c.in_ok-add_talkers.ensures.all,
    )

pub add_slots-requires-clause-fresh : goal.add_slots-requires-clause-fresh
add_slots-requires-clause-fresh g c = λ places bounds. c.add_talkers.ensures.moves.moves.still_fresh _ c.requires.fresh

pub add_slots-requires-clause-space : goal.add_slots-requires-clause-space
add_slots-requires-clause-space g c =
    λ places bounds. space_stays _ _ _ _ _ _ _ c.add_talkers.ensures.moves.moves.counts c.requires.space
    c.add_talkers.ensures.space

pub returns-in_err-add_slots-clause-moves : goal.returns-in_err-add_slots-clause-moves
returns-in_err-add_slots-clause-moves g c =
    moves_on _ _ _ _ _ _ c.add_talkers.ensures.moves.moves c.add_slots.ensures.moves.moves

pub returns-clause-moves : goal.returns-clause-moves
returns-clause-moves g c = moves_on _ _ _ _ _ _ c.add_talkers.ensures.moves.moves c.add_slots.ensures.moves.moves

pub returns-clause-lays : goal.returns-clause-lays
returns-clause-lays g c =
    lays _ _ _ _ _ _ _ c.add_talkers.ensures.moves (no_length _ c.in_ok-add_talkers.ensures.all)
    c.add_slots.ensures.moves (no_length _ c.in_ok-add_slots.ensures.all) c.requires.ears c.requires.passes
