-- A slot's state, and the child that it tells of.
use Rattle.std.proofs.Common.{◌≡◌, ◌∙◌, ℕ, Bool, true, false, refl, sym, ap, eqb-true, eq-eqb, ne_eqb}
use Rattle.std.proofs.lemmas.Bool.{both_ways}
use Rattle.std.specs.Prelude.{◌==◌, if◌then◌else◌}
use Rattle.helper_core.specs.Incarnations as slot
use Rattle.helper_core.specs.declared.state.State.{State}
use Rattle.helper_core.specs.declared.state.State.TheVariants.{Absent, Idle, Running, Deaf, GivenUp}
use Rattle.book_history.specs.Helpers.{Child, deafened, is_running, without}
use Rattle.book_history.specs.Helpers.Child.{NoChild, Running as Runs, Deaf as IsDeaf}
use Rattle.helper_book.specs.Seen.{child_in, has_process, was_given_up}

pub runs_in : (inc : ℕ) (state : State) → slot.is_running inc state ≡ is_running (child_in state) inc
runs_in inc Absent = refl
runs_in inc Idle = refl
runs_in inc (Running own) = refl
runs_in inc (Deaf own) = refl
runs_in inc GivenUp = refl

-- an incarnation is gone

pub child_gone : (inc : ℕ) (state : State)
    → child_in (if slot.is_present inc state then Idle else state) ≡ without inc (child_in state)
child_gone inc Absent = refl
child_gone inc Idle = refl
child_gone inc (Running own) =
    elim (own == inc) as (λ b. child_in (if b then Idle else Running own) ≡ (if b then NoChild else Runs own)) [
      | true ↦ refl
      | false ↦ refl
    ]
child_gone inc (Deaf own) =
    elim (own == inc) as (λ b. child_in (if b then Idle else Deaf own) ≡ (if b then NoChild else IsDeaf own)) [
      | true ↦ refl
      | false ↦ refl
    ]
child_gone inc GivenUp = refl

one_of_two : {A : Type 0} (so : Bool) (f : State → A) (new old : State) → f new ≡ f old
    → f (if so then new else old) ≡ f old
one_of_two true f new old same = same
one_of_two false f new old same = refl

pub process_gone : (inc : ℕ) (state : State)
    → has_process (if slot.is_present inc state then Idle else state) ≡ has_process state
process_gone inc Absent = refl
process_gone inc Idle = refl
process_gone inc (Running own) = one_of_two (own == inc) has_process Idle (Running own) refl
process_gone inc (Deaf own) = one_of_two (own == inc) has_process Idle (Deaf own) refl
process_gone inc GivenUp = refl

pub given_up_gone : (inc : ℕ) (state : State)
    → was_given_up (if slot.is_present inc state then Idle else state) ≡ was_given_up state
given_up_gone inc Absent = refl
given_up_gone inc Idle = refl
given_up_gone inc (Running own) = one_of_two (own == inc) was_given_up Idle (Running own) refl
given_up_gone inc (Deaf own) = one_of_two (own == inc) was_given_up Idle (Deaf own) refl
given_up_gone inc GivenUp = refl

-- an incarnation no longer reads

pub child_deaf : (inc : ℕ) (state : State)
    → child_in (if slot.is_running inc state then Deaf inc else state) ≡ deafened inc (child_in state)
child_deaf inc Absent = refl
child_deaf inc Idle = refl
child_deaf inc (Running own) =
    elim (own == inc) as (λ b. (own == inc) ≡ b
    → child_in (if b then Deaf inc else Running own) ≡ (if b then IsDeaf own else Runs own)) [
      | true ↦ λ e. ap IsDeaf (sym (eqb-true own inc e))
      | false ↦ λ e. refl
    ] refl
child_deaf inc (Deaf own) = refl
child_deaf inc GivenUp = refl

pub process_deaf : (inc : ℕ) (state : State)
    → has_process (if slot.is_running inc state then Deaf inc else state) ≡ has_process state
process_deaf inc Absent = refl
process_deaf inc Idle = refl
process_deaf inc (Running own) = one_of_two (own == inc) has_process (Deaf inc) (Running own) refl
process_deaf inc (Deaf own) = refl
process_deaf inc GivenUp = refl

pub given_up_deaf : (inc : ℕ) (state : State)
    → was_given_up (if slot.is_running inc state then Deaf inc else state) ≡ was_given_up state
given_up_deaf inc Absent = refl
given_up_deaf inc Idle = refl
given_up_deaf inc (Running own) = one_of_two (own == inc) was_given_up (Deaf inc) (Running own) refl
given_up_deaf inc (Deaf own) = refl
given_up_deaf inc GivenUp = refl

-- what runs behind a call ran before

pub without_runs : (inc other : ℕ) (was : Child) → is_running (without inc was) other ≡ true
    → is_running was other ≡ true
without_runs inc other NoChild runs = runs
without_runs inc other (Runs own) runs =
    elim (own == inc) as (λ b. is_running (if b then NoChild else Runs own) other ≡ true
    → (own == other) ≡ true) [
      | true ↦ λ r. cc
      | false ↦ λ r. r
    ] runs
without_runs inc other (IsDeaf own) runs =
    elim (own == inc) as (λ b. is_running (if b then NoChild else IsDeaf own) other ≡ true → false ≡ true) [
      | true ↦ λ r. r
      | false ↦ λ r. r
    ] runs

-- and is not what became deaf
pub deafened_runs : (inc other : ℕ) (was : Child) → is_running (deafened inc was) other ≡ true
    → (is_running was other ≡ true) × ((inc == other) ≡ false)
deafened_runs inc other NoChild runs = cc
deafened_runs inc other (Runs own) runs =
    elim (own == inc) as (λ b. (own == inc) ≡ b → is_running (if b then IsDeaf own else Runs own) other ≡ true
    → ((own == other) ≡ true) × ((inc == other) ≡ false)) [
      | true ↦ λ e r. cc
      | false ↦ λ e r. (r, swapped own inc other (eqb-true own other r) e)
    ] refl runs
  where
    swapped : (own inc other : ℕ) → own ≡ other → (own == inc) ≡ false → (inc == other) ≡ false
    swapped own inc other same apart =
        ne_eqb inc other (λ e. absurd (both_ways _ apart (eq-eqb own inc (same ∙ sym e))))
deafened_runs inc other (IsDeaf own) runs = cc
