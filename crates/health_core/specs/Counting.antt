-- When a service is up: the outcomes of its checks so far, the first one first, decide it.
use Rattle.std.specs.Prelude.{ℕ, zero, suc, ◌≡◌, ◌^◌, ◌+◌, ◌-◌, ◌&&◌, nat_le, nat_lt, not, Bool, true, false}
use Rattle.std.specs.Prelude.{if◌then◌else◌}
use Rattle.std.specs.Prelude.{List, [], ◌∷◌, ◌++◌, length, take, min, Option, Some, None, reverse}
use Rattle.std.specs.List.{list_all, prefix_len}
use Rattle.outside.specs.declared.probe.Outcome.{Outcome}
use Rattle.outside.specs.declared.probe.Outcome.TheVariants.{Up, Down}
use Rattle.health_core.specs.declared.counter.Change.{Change}
use Rattle.health_core.specs.declared.counter.Change.TheVariants.{Rise, Fall}
use Rattle.health_core.specs.declared.counter.Counter.{Counter}

-- whether an outcome is this one
abbrev pub is_outcome : Outcome → Outcome → Bool
is_outcome Up Up = true
is_outcome Up Down = false
is_outcome Down Up = false
is_outcome Down Down = true

-- whether there are so many outcomes, and the last so many of them are this one
abbrev pub ends_in : Outcome → ℕ → List Outcome → Bool
ends_in which n outcomes =
    nat_le n (length outcomes) && list_all (is_outcome which) (take n (reverse outcomes))

-- Whether the service is up behind the first k outcomes. At first it isn't. It comes up where the last `rise` outcomes
-- are `Up`, and goes down where the last `fall` are `Down`.
unfoldable pub is_up : ℕ → ℕ → List Outcome → ℕ → Bool
is_up rise fall outcomes zero = false
is_up rise fall outcomes (suc k) =
    if is_up rise fall outcomes k
    then not (ends_in Down fall (take (suc k) outcomes))
    else ends_in Up rise (take (suc k) outcomes)

-- whether it is up behind all of them
abbrev pub is_up_now : ℕ → ℕ → List Outcome → Bool
is_up_now rise fall outcomes = is_up rise fall outcomes (length outcomes)

-- what changed between two moments
abbrev pub change_of : Bool → Bool → Option Change
change_of false false = None
change_of false true = Some Rise
change_of true false = Some Fall
change_of true true = None

-- what one more outcome changes
abbrev pub change_at : ℕ → ℕ → List Outcome → Outcome → Option Change
change_at rise fall outcomes next =
    change_of (is_up_now rise fall outcomes) (is_up_now rise fall (outcomes ++ next ∷ []))

-- how many of the last outcomes are this one without a break
abbrev pub streak : Outcome → List Outcome → ℕ
streak which outcomes = prefix_len (is_outcome which) (reverse outcomes)

-- the outcome that it isn't
abbrev pub other_outcome : Outcome → Outcome
other_outcome Up = Down
other_outcome Down = Up

-- how long the streak of an outcome is that a counter keeps
abbrev pub in_a_row : Counter → Outcome → ℕ
in_a_row counter which = if is_outcome counter.last which then counter.streak else 0

-- whether the service is up, by the streak and by whether it was up
abbrev pub is_up_next : Counter → Bool
is_up_next counter =
    if counter.up then nat_lt (in_a_row counter Down) counter.fall else nat_le counter.rise (in_a_row counter Up)

-- a counter with one more outcome, before it is looked whether that changes anything
abbrev pub with_outcome : Counter → Outcome → Counter
with_outcome counter outcome = record counter {
  last = outcome;
  streak = if is_outcome counter.last outcome then min (counter.streak + 1) (2 ^ 32 - 1) else 1;
}

-- what a counter knows of these outcomes: whether the service is up, and how long the last streak is, as far as a
-- number of 32 bits goes
pub record Counts (rise fall : ℕ) (outcomes : List Outcome) (counter : Counter) : Type 0 where
  pub rise_is : counter.rise ≡ rise
  pub fall_is : counter.fall ≡ fall
  pub up_is : counter.up ≡ is_up_now rise fall outcomes
  pub streak_is : counter.streak ≡ min (streak counter.last outcomes) (2 ^ 32 - 1)
  pub broken : streak (other_outcome counter.last) outcomes ≡ 0
