-- The entries of a reader, helper by helper.
use Rattle.std.specs.Prelude.{ℕ, ◌≡◌, ◌⊎◌, ◌+◌, ⊤, Bool, List, [], ◌∷◌, ◌++◌, map}
use Rattle.std.specs.List.{All, flat_map}
use Rattle.std.specs.declared.option.Option.{Option}
use Rattle.std.specs.declared.option.Option.TheVariants.{Some, None}
use mathlib.Core.List.{IsPrefix}
use Rattle.arrayvec.specs.ArrayVec.{ArrayVec}
use Rattle.text_forms.specs.Lines.{Line}
use Rattle.outside.specs.Ended.{EndedChild, child_of}
use Rattle.outside.specs.Lent.{GoesBy}
use Rattle.outside.specs.Moments.{MayRead}
use Rattle.outside.specs.Told.{Grows}
use Rattle.book_history.specs.declared.outcomes.Spawn.{Spawn}
use Rattle.book_history.specs.declared.outcomes.Spawn.TheVariants as spawn
use Rattle.book_history.specs.Entries.{Entry}
use Rattle.book_history.specs.Entries.Entry.{HelperGone, SpawnAsked}
use Rattle.book_gate.specs.Known.{Known}
use Rattle.book_gate.specs.declared.view.Signed.{Signed}
use Rattle.pass_entries.specs.Making.{Makes, own}
use Rattle.helper_worker.specs.Handing.{HasStop, IsAnswered, TookNothing, under}
use Rattle.helper_worker.specs.Hearing.{IsHeard}
use Rattle.helper_worker.specs.Lines.{LineRun}

-- what the pipes of a helper tell once they have come back
pub record Ends : Type 0 where
  pub given : Option (List ℕ)
  pub ended : Bool
  pub faults : ℕ
  pub taken : Option (List ℕ)
  pub sink_faults : ℕ

abbrev pub ends_of : Option (List ℕ) → Bool → ℕ → Option (List ℕ) → ℕ → Ends
ends_of given ended faults taken sink_faults =
    record { given = given; ended = ended; faults = faults; taken = taken; sink_faults = sink_faults }

-- a helper was started, these lines were entered, and its pipes came back; or it wasn't started
pub data Outcome : Type 0 where
  Heard : List Entry → Ends → Outcome
  Failed : Outcome

-- by a moment and an answer, a helper was to be started as this incarnation; or none was
pub data Round : Type 0 where
  Start : ℕ → ℕ → ArrayVec ℕ → Outcome → Round
  Idle : ℕ → Spawn → Round

-- what a reader enters behind a Go, with one `gone` at its end
abbrev pub made_by : ℕ → ℕ → Outcome → List Entry
made_by h inc (Heard lines ends) = lines ++ HelperGone h inc ∷ []
made_by h inc Failed = HelperGone h inc ∷ []

abbrev pub entries_of : ℕ → Round → List Entry
entries_of h (Start now inc run outcome) = SpawnAsked h now (spawn.Go inc run) ∷ made_by h inc outcome
entries_of h (Idle now given) = SpawnAsked h now given ∷ []

-- the child of a round, where its pipes tell all of it
abbrev pub children_by : Outcome → List (Option EndedChild)
children_by (Heard lines ends) = child_of ends.given ends.ended ends.faults ends.taken ends.sink_faults ∷ []
children_by Failed = []

abbrev pub children_of : Round → List (Option EndedChild)
children_of (Start now inc run outcome) = children_by outcome
children_of (Idle now given) = []

-- what a round asked to be started
abbrev pub asked_by : Round → List (Option (List ℕ))
asked_by (Start now inc run outcome) = Some run.items ∷ []
asked_by (Idle now given) = []

-- how many helpers weren't started
abbrev pub failures_by : Outcome → ℕ
failures_by (Heard lines ends) = 0
failures_by Failed = 1

abbrev pub failures_of : Round → ℕ
failures_of (Start now inc run outcome) = failures_by outcome
failures_of (Idle now given) = 0

abbrev pub failures_in : List Round → ℕ
failures_in [] = 0
failures_in (round ∷ rounds) = failures_of round + failures_in rounds

-- lines of one incarnation were entered, which are those that it gave
pub record IsVisit (h inc : ℕ) (lines : List Entry) (given : Option (List ℕ)) (ended : Bool) (faults : ℕ)
    : Type 0 where
  pub bytes : List ℕ
  pub gives : Grows (Some []) given bytes
  pub texts : List Line
  pub late : Bool
  pub run : LineRun h inc texts late lines
  pub heard : IsHeard bytes texts late ended faults

abbrev pub IsOutcome : ℕ → ℕ → Outcome → Type 0
IsOutcome h inc (Heard lines ends) = IsVisit h inc lines ends.given ends.ended ends.faults
IsOutcome h inc Failed = ⊤

-- an answer by which nothing is started, and more may be asked
abbrev pub IsIdle : Spawn → Type 0
IsIdle spawn.Stopping = ⊥
IsIdle spawn.Absent = ⊤
IsIdle spawn.Running = ⊤
IsIdle spawn.GiveUp = ⊤
IsIdle (spawn.Go inc run) = ⊥

abbrev pub IsRound : ℕ → Option (ℕ → Bool) → Round → Type 0
IsRound h moments (Start now inc run outcome) = MayRead moments now × IsOutcome h inc outcome
IsRound h moments (Idle now given) = MayRead moments now × IsIdle given

-- a history has at its front one by which a sink came back from the replier, or it took nothing as the replier was
-- called off
pub record IsSinkBack (writer : List ℕ) (h inc : ℕ) (taken : Option (List ℕ)) (faults : ℕ)
    (seen : List (Signed Entry)) : Type 0 where
  pub before : List (Signed Entry)
  pub front : IsPrefix before seen
  pub back : IsAnswered writer h inc taken faults before ⊎ (TookNothing taken × HasStop before)

-- and in which a name has made no more than these entries
pub record IsBackBy (writer : List ℕ) (h inc : ℕ) (ends : Ends) (name : List ℕ) (made : List Entry)
    (seen : List (Signed Entry)) : Type 0 where
  pub sink : IsSinkBack writer h inc ends.taken ends.sink_faults seen
  pub made_by_then : IsPrefix (under name sink.before) made

module _ {X : Type 0} where
  -- the told list grows by items where they are told, and tells nothing more where one isn't
  abbrev pub GathersAll : Option (List X) → Option (List X) → List (Option X) → Type 0
  GathersAll old None items = ⊤
  GathersAll None (Some now) items = ⊥
  GathersAll (Some was) (Some now) items = map (λ item. Some item) now ≡ map (λ item. Some item) was ++ items

-- what a spawner tells: the children that have ended, what it was asked for, and how many calls have failed
pub record Told : Type 0 where
  pub children : Option (List EndedChild)
  pub asked : Option (List (List ℕ))
  pub failed : Option ℕ

abbrev pub told : Option (List EndedChild) → Option (List (List ℕ)) → Option ℕ → Told
told children asked failed = record { children = children; asked = asked; failed = failed }

-- a spawner tells more, by rounds
pub record Tells (old new : Told) (rounds : List Round) : Type 0 where
  pub children : GathersAll old.children new.children (flat_map children_of rounds)
  pub asked : GathersAll old.asked new.asked (flat_map asked_by rounds)
  pub failed : GoesBy (λ count. count + failures_in rounds) old.failed new.failed

module _ {A : Type 0} where
  -- a pass entered the lines of a new helper and that it is gone
  pub record HearsOut (h inc : ℕ) (given : Option (List ℕ)) (ended : Bool) (faults : ℕ) (pass later : Known A Entry)
      : Type 0 where
    pub lines : List Entry
    pub makes : Makes pass (lines ++ HelperGone h inc ∷ []) later
    pub visit : IsVisit h inc lines given ended faults

  -- a pass entered the lines of a helper and that it is gone, and its sink has come back
  pub record Attends (h : ℕ) (writer : List ℕ) (inc : ℕ) (ends : Ends) (pass later : Known A Entry) : Type 0 where
    pub lines : List Entry
    pub makes : Makes pass (lines ++ HelperGone h inc ∷ []) later
    pub visit : IsVisit h inc lines ends.given ends.ended ends.faults
    pub back : IsSinkBack writer h inc ends.taken ends.sink_faults later.seen

  -- a pass made what comes behind a Go
  pub record Visits (h : ℕ) (writer : List ℕ) (inc : ℕ) (run : List ℕ) (old new : Told) (pass later : Known A Entry)
      : Type 0 where
    pub outcome : Outcome
    pub makes : Makes pass (made_by h inc outcome) later
    pub good : IsOutcome h inc outcome
    pub children : GathersAll old.children new.children (children_by outcome)
    pub asked : GathersAll old.asked new.asked (Some run ∷ [])
    pub failed : GoesBy (λ count. count + failures_by outcome) old.failed new.failed
    pub back : (lines : List Entry) (ends : Ends) → outcome ≡ Heard lines ends
        → IsSinkBack writer h inc ends.taken ends.sink_faults later.seen

  -- each sink came back before the next round
  abbrev pub AreBack : ℕ → List ℕ → List Round → Known A Entry → Known A Entry → Type 0
  AreBack h writer rounds pass later =
      (front back : List Round) (now inc : ℕ) (run : ArrayVec ℕ) (lines : List Entry) (ends : Ends)
      → rounds ≡ (front ++ Start now inc run (Heard lines ends) ∷ []) ++ back
      → IsBackBy writer h inc ends pass.name
      (own pass ++ flat_map (entries_of h) (front ++ Start now inc run (Heard lines ends) ∷ [])) later.seen

  -- a pass made the entries of rounds, and last these
  pub record Reads (h : ℕ) (writer : List ℕ) (moments : Option (ℕ → Bool)) (old new : Told) (last : List Entry)
      (pass later : Known A Entry) : Type 0 where
    pub rounds : List Round
    pub makes : Makes pass (flat_map (entries_of h) rounds ++ last) later
    pub good : All (IsRound h moments) rounds
    pub tells : Tells old new rounds
    pub back : AreBack h writer rounds pass later

  -- a pass made the entries of rounds, and last that the daemon is to end
  pub record ReadsOut (h : ℕ) (writer : List ℕ) (moments : Option (ℕ → Bool)) (old new : Told)
      (pass later : Known A Entry) : Type 0 where
    pub now : ℕ
    pub moment : MayRead moments now
    pub reads : Reads h writer moments old new (SpawnAsked h now spawn.Stopping ∷ []) pass later
