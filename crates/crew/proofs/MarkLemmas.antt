-- Jobs that are marked one after the other.
use Rattle.std.proofs.Common.{ℕ, ◌≡◌, ◌<◌, ◌+◌, ◌++◌, ◌&&◌, ◌==◌, ◌≤◌, if◌then◌else◌, ◌∙◌, not, Bool, true, false, List}
use Rattle.std.proofs.Common.{◌∷◌, length, get_or, set, take, drop, suc, refl, sym, ap, ap₂, append-nil, arith, add-one}
use Rattle.std.proofs.Common.{below_more, lt-suc_self, le_of_eq, le_trans}
use Rattle.std.specs.List.{list_any}
use Rattle.std.proofs.Math.Seq.{append_snoc, drop-cons, drop-length, drop-set-lt, take-length, take-suc-set}
use Rattle.outside.specs.Refusals.{Refusals, is_refused}
use Rattle.outside.specs.Told.{Rose, counted}
use Rattle.crew.specs.declared.place.Place.{Place}
use Rattle.crew.specs.Crews.{RefusesNone, RefusesOne, marked}

-- a plan with the same numbers refuses the same jobs
pub same_refused : (old new : Refusals) (k : ℕ) → new.refused ≡ old.refused → is_refused new k ≡ is_refused old k
same_refused old new k same = ap (list_any (λ number. number == k)) same

module _ {W : Type 0} (plan : Refusals) where
  -- one more is marked
  pub marked_more : (places : List (Place W)) (k : ℕ) (place : Place W) (refused : Bool) → k < length places
      → refused ≡ is_refused plan k
      → take k places ++ marked plan k (drop k places)
      ≡ take (k + 1) (set places k (record { worker = (get_or places k place).worker; refused = refused }))
      ++ marked plan (k + 1) (drop (k + 1) (set places k (record {
        worker =
            (get_or places k place).worker;
        refused = refused;
      })))
  marked_more places k place refused lt is =
      let x : Place W = record { worker = (get_or places k place).worker; refused = refused } in
      let behind = marked plan (suc k) (drop (suc k) places) in
      let at : marked plan k (drop k places) ≡ x ∷ behind =
      ap (marked plan k) (drop-cons places k place lt)
      ∙ ap (λ r. record { worker = (get_or places k place).worker; refused = r } ∷ behind) (sym is) in
      ap (λ rest. take k places ++ rest) at ∙ sym (append_snoc (take k places) x behind)
      ∙ ap₂ (λ front rest. front ++ marked plan (suc k) rest) (sym (take-suc-set places k x lt))
      (sym (drop-set-lt (suc k) places k x (lt-suc_self k)))
      ∙ ap (λ n. take n (set places k x) ++ marked plan n (drop n (set places k x))) (sym (add-one k))

  -- none is left to be marked
  pub marked_all : (places : List (Place W)) (k : ℕ) → k ≡ length places
      → take k places ++ marked plan k (drop k places) ≡ places
  marked_all places k is =
      ap (λ n. take n places ++ marked plan n (drop n places)) is
      ∙ ap₂ (λ front rest. front ++ marked plan (length places) rest) (take-length places) (drop-length places)
      ∙ append-nil places

-- one more job is asked for, and all so far are run
pub none_more : (plan : Refusals) (k : ℕ) (all refused : Bool) → refused ≡ is_refused plan k
    → (all ≡ true → RefusesNone plan k) → all && not refused ≡ true → RefusesNone plan (k + 1)
none_more plan k true false is before now = below_more (λ i. is_refused plan i ≡ false) k (before refl) (sym is)
none_more plan k true true is before now = cc
none_more plan k false refused is before now = cc

-- one more job is asked for, and one so far is refused
pub one_more : (plan : Refusals) (k : ℕ) (all refused : Bool) → refused ≡ is_refused plan k
    → (all ≡ false → RefusesOne plan k) → all && not refused ≡ false → RefusesOne plan (k + 1)
one_more plan k true true is before now = (k, omega arith, sym is)
one_more plan k true false is before now = cc
one_more plan k false refused is before now = let h = before refl in (h.0, omega (arith, h.1), h.2)

module _ (plan was now : Refusals) (job : ℕ) (refused : Bool) (is : refused ≡ is_refused was job)
    (told : now ≡ record was { faults = if is_refused was job then counted was.faults else was.faults }) where
  -- by what was asked, the plan is as before, or it counts one more
  asked : now ≡ record was { faults = if refused then counted was.faults else was.faults }
  asked = told ∙ ap (λ r. record was { faults = if r then counted was.faults else was.faults }) (sym is)

-- a plan that has refused nothing so far is as it was
pub same_more : (plan was now : Refusals) (job : ℕ) (all refused : Bool) → refused ≡ is_refused was job
    → now ≡ record was { faults = if is_refused was job then counted was.faults else was.faults }
    → (all ≡ true → was ≡ plan) → all && not refused ≡ true → now ≡ plan
same_more plan was now job true false is told before all = asked plan was now job false is told ∙ before refl
same_more plan was now job true true is told before all = cc
same_more plan was now job false refused is told before all = cc

-- the count of one that has refused a job has risen
pub rose_more : (plan was now : Refusals) (job : ℕ) (all refused : Bool) → refused ≡ is_refused was job
    → now ≡ record was { faults = if is_refused was job then counted was.faults else was.faults }
    → was.faults ≤ now.faults → (all ≡ true → was ≡ plan) → (all ≡ false → Rose plan.faults was.faults)
    → all && not refused ≡ false → Rose plan.faults now.faults
rose_more plan was now job true true is told later same before none =
    le_of_eq (ap (λ it. counted it.faults) (sym (same refl)) ∙ ap (λ it. it.faults) (sym
    (asked plan was now job true is told)))
rose_more plan was now job true false is told later same before none = cc
rose_more plan was now job false refused is told later same before none = le_trans (before refl) later
