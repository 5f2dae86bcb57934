-- Which jobs a crew refuses.
use Rattle.std.specs.Prelude.{ℕ, ◌==◌, List, Bool}
use Rattle.std.specs.List.{list_any}

-- the numbers, from 0, of the jobs that are to be refused, and how many were
pub record Refusals : Type 0 where
  pub refused : List ℕ
  pub faults : ℕ

-- whether the job of this number is to be refused
abbrev pub is_refused : Refusals → ℕ → Bool
is_refused plan job = list_any (λ number. number == job) plan.refused
