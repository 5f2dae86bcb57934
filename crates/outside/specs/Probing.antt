-- What a probe is asked for, and what it finds.
use Rattle.std.specs.Prelude.{ℕ, List}
use Rattle.outside.specs.declared.probe.Outcome.{Outcome}

-- a check by a program, and what it found
pub record Checked : Type 0 where
  pub run : List ℕ
  pub outcome : Outcome

abbrev pub checked : List ℕ → Outcome → Checked
checked run outcome = record { run = run; outcome = outcome }
