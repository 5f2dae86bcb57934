-- What a probe in memory tells grows by a check.
use Rattle.std.proofs.Common.{ℕ, ◌≡◌, Bool, true, false, if◌then◌else◌, List, length, nat_le, ap, subst, sym, refl}
use Rattle.std.specs.declared.option.Option.{Option}
use Rattle.std.specs.declared.option.Option.TheVariants.{Some, None}
use Rattle.std.specs.Option.{option_map}
use Rattle.arrayvec.specs.ArrayVec.{ArrayVec}
use Rattle.outside.specs.declared.memory.listed_probe.KeptCheck.{KeptCheck}
use Rattle.outside.specs.declared.probe.Outcome.{Outcome}
use Rattle.outside.specs.Ended.{Gathers}
use Rattle.outside.specs.Probes.{kept_told}
use Rattle.outside.specs.Probing.{Checked, checked}
use Rattle.outside.specs.Rolls.{all_told}
use Rattle.outside.proofs.RollLemmas.{all_told_more}

-- a list that an untold item ended tells nothing, whatever the item was
untold : (old new : Option (List Checked)) (item : Checked) → Gathers old new None → Gathers old new (Some item)
untold old None item step = tt
untold old (Some now) item step = absurd step

-- a program for which there may be room
kept_or_not : (fits : Bool) (run : List ℕ) → Option (ArrayVec ℕ)
kept_or_not fits run = if fits then Some (record { items = run }) else None

told_or_not : (fits : Bool) (run : List ℕ) (outcome : Outcome) (old new : Option (List Checked))
    → Gathers old new (option_map (λ (kept : ArrayVec ℕ). checked kept.items outcome) (kept_or_not fits run))
    → Gathers old new (Some (checked run outcome))
unfolding kept_or_not
told_or_not true run outcome old new step = step
told_or_not false run outcome old new step = untold old new (checked run outcome) step

-- a check that is kept is told, or from then on nothing is
pub check_told : (old new : Option (List KeptCheck)) (kept : KeptCheck) (run : List ℕ)
    → kept.run ≡ (if nat_le (length run) 1024 then Some (record { items = run }) else None)
    → Gathers old new (Some kept)
    → Gathers (all_told kept_told old) (all_told kept_told new) (Some (checked run kept.outcome))
unfolding kept_or_not
check_told old new kept run is step =
    told_or_not (nat_le (length run) 1024) run kept.outcome (all_told kept_told old) (all_told kept_told new)
    (subst (λ (held : Option (ArrayVec ℕ)). Gathers (all_told kept_told old) (all_told kept_told new)
    (option_map (λ (kept' : ArrayVec ℕ). checked kept'.items kept.outcome) held)) is
    (all_told_more kept_told old new kept step))
