-- What a probe in memory keeps, and what it has left to find.
use Rattle.std.specs.Prelude.{ℕ, List, [], ◌∷◌}
use Rattle.std.specs.declared.option.Option.{Option}
use Rattle.std.specs.Option.{option_map}
use Rattle.arrayvec.specs.ArrayVec.{ArrayVec}
use Rattle.outside.specs.declared.probe.Outcome.{Outcome}
use Rattle.outside.specs.declared.probe.Outcome.TheVariants.{Down}
use Rattle.outside.specs.declared.memory.listed_probe.KeptCheck.{KeptCheck}
use Rattle.outside.specs.declared.memory.listed_probe.MemoryProbe.{MemoryProbe}
use Rattle.outside.specs.Probing.{Checked, checked}

-- what is told of a check that is kept, where there was room for its program
abbrev pub kept_told : KeptCheck → Option Checked
kept_told kept = option_map (λ (run : ArrayVec ℕ). checked run.items kept.outcome) kept.run

-- the outcomes that it hasn't found yet
abbrev pub outcomes_left : MemoryProbe → List Outcome
outcomes_left p = p.outcomes.now

-- the next one, which is `Down` behind the last, and those behind it
abbrev pub next_outcome : List Outcome → Outcome
next_outcome [] = Down
next_outcome (first ∷ others) = first

abbrev pub later_outcomes : List Outcome → List Outcome
later_outcomes [] = []
later_outcomes (first ∷ others) = others
