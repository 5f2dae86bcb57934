use Rattle.std.proofs.Common.{◌≡◌, ◌≤◌, ◌++◌, true, false, length, take, drop}
use Rattle.crew.specs.Crews.{RefusesNone, RefusesOne, marked}
use Rattle.outside.specs.Told.{Rose}
use Rattle.crew.proofs.marking.mark.Given as goal

-- Those before the counter are marked, and all of them were asked for.
abbrev pub invariant-loop-i : goal.invariant-loop-i
invariant-loop-i g l = record {
  marked : marked l.initial.plan 0 l.initial.places ≡ take l.i l.places
      ++ marked l.initial.plan l.i (drop l.i l.places);
  within : l.i ≤ length l.places;
  refused : l.plan.refused ≡ l.initial.plan.refused;
  all : l.all ≡ true → RefusesNone l.initial.plan l.i;
  same : l.all ≡ true → l.plan ≡ l.initial.plan;
  one : l.all ≡ false → RefusesOne l.initial.plan l.i;
  count : l.all ≡ false → Rose l.initial.plan.faults l.plan.faults;
}
