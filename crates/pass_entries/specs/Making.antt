-- The entries that a pass makes.
use Rattle.std.specs.Prelude.{ℕ, ◌≡◌, List, [], ◌∷◌, ◌++◌, Contains}
use mathlib.Core.List.{IsPrefix}
use Rattle.book_gate.specs.Calls.{Enters, IsLater, Learns}
use Rattle.book_gate.specs.Histories.{entries, entries_by}
use Rattle.book_gate.specs.Known.{Glimpsed, Known}

module _ {A E : Type 0} where
  -- the pass's own entries, in order
  abbrev pub own : Known A E → List E
  own pass = entries (entries_by pass.name pass.seen)

  -- the same pass, which has seen more, and has made just these entries more
  pub record Makes (pass : Known A E) (made : List E) (later : Known A E) : Type 0 where
    pub same : IsLater pass later
    pub front : IsPrefix pass.seen later.seen
    pub own : own later ≡ own pass ++ made
    pub joined : (name : List ℕ) → Contains pass.joined name → entries_by name later.seen ≡ entries_by name pass.seen

-- no call makes no entry
abbrev pub MakesNone : Type 0 → Type 0 → Type 0
MakesNone A E = (pass : Known A E) → Makes pass [] pass

-- a call makes its own entry
abbrev pub MakesOne : {A E : Type 0} → (A → List E → E → Type 0) → Type 0
MakesOne {A = A} {E = E} law =
    (pass later : Known A E) (entry : E) → Enters law pass entry later → Makes pass (entry ∷ []) later

-- entries are made behind others
abbrev pub MakesMore : Type 0 → Type 0 → Type 0
MakesMore A E =
    (pass between later : Known A E) (first second : List E) → Makes pass first between → Makes between second later
    → Makes pass (first ++ second) later

-- what is learned makes no entry
abbrev pub MakesLearned : {A E : Type 0} → (A → List E → E → Type 0) → Type 0
MakesLearned {A = A} {E = E} law =
    (pass later : Known A E) (glimpse : Glimpsed E) → Learns law pass glimpse later → Makes pass [] later
