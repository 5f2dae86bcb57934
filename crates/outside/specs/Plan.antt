-- Which calls of an object in memory fail.
use Rattle.std.specs.Prelude.{ℕ, ◌==◌, List, Bool, if◌then◌else◌}
use Rattle.std.specs.List.{list_any}
use Rattle.outside.specs.Told.{counted, counted_with}

-- the numbers, from 0, of the calls that are to fail, and how many calls and faults there were
pub record Plan : Type 0 where
  pub failing : List ℕ
  pub calls : ℕ
  pub faults : ℕ

-- whether the next call is to fail
abbrev pub strikes_now : Plan → Bool
strikes_now plan = list_any (λ number. number == plan.calls) plan.failing

-- the plan after one more call
abbrev pub after_call : Plan → Plan
after_call plan = record plan {
  calls = counted plan.calls;
  faults = if strikes_now plan then counted plan.faults else plan.faults;
}

-- the plan after what has so many faults came back
abbrev pub after_return : ℕ → Plan → Plan
after_return faults plan = record plan { faults = counted_with faults plan.faults }
