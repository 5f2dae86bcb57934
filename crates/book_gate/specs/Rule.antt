-- The rule of the gate's table: what holds of its words, its slot and all views between any two steps.
use Rattle.std.specs.Prelude.{◌≡◌, ◌⊎◌, ℕ, ◌%◌, ◌^◌, ◌<◌, ◌≤◌, true, false, List, [], ◌∷◌, length, Option, Some, map}
use Rattle.std.specs.Prelude.{Contains}
use mathlib.Core.Option.{some}
use mathlib.Core.Option as maybe
use mathlib.Core.List.{IsPrefix}
use lib.ListN.{get_elem?}
use Rattle.atomic_table.specs.Table.{State}
use Rattle.book_gate.specs.declared.view.Signed.{Signed}
use Rattle.book_gate.specs.declared.view.View.{View}
use Rattle.book_gate.specs.Histories.{Legal, entries, entries_by}
use Rattle.book_gate.specs.Names.{IsGivenOut, NamesAgree}
use Rattle.book_gate.specs.Views.{lineage, own_names, KeepsLesson}
use Rattle.book_gate.specs.Queue.{Queue}

-- The history, how many names each name gave out, and how many turns were served and tickets taken, in counts without
-- end
pub record Ledger (E : Type 0) : Type 0 where
  pub log : List (Signed E)
  pub given : List ℕ → ℕ
  pub done : ℕ
  pub all : ℕ

module _ {A E : Type 0} where
  -- What the rule says of one view
  pub record ViewFits (start : A) (log : List (Signed E)) (done all : ℕ) (view : View A E) : Type 0 where
    pub opened : (origin : A) → view.start ≡ Some origin → origin ≡ start
    pub seen : IsPrefix view.seen log
    pub own : (origin : A) → view.start ≡ Some origin → (name : List ℕ) → Contains (own_names view) name
        → entries_by name view.seen ≡ entries_by name log
    pub out : (k : ℕ) → view.ticket ≡ Some k → (done ≤ k) × (k < all)
    pub alive : (k : ℕ) → view.ticket ≡ Some k → view.start ≡ Some start
    pub turn : view.turn ≡ true → (view.ticket ≡ Some done) × (view.seen ≡ log)
    pub lesson : KeepsLesson view

  -- Some pass has seen the whole history
  abbrev pub IsSeen : A → List (Signed E) → List (View A E) → Type 0
  IsSeen start log views = (i : ℕ) × (view : View A E) × (get_elem? views i ≡ some view) × (view.start ≡ Some start)
      × (view.seen ≡ log)

module _ {A E : Type 0} (law : A → List E → E → Type 0) where
  -- The history is legal, has only names that were given out, and is known whole to some pass
  pub record IsHistory (start : A) (given : List ℕ → ℕ) (log : List (Signed E)) (views : List (View A E)) : Type 0 where
    pub legal : Legal law start (entries log)
    pub named : (x : Signed E) → Contains log x → IsGivenOut given x.name
    pub seen : IsSeen start log views

module _ {T A E : Type 0} (stands : T → A → List E → Type 0) where
  -- The state is at home and no view is at its turn, or a view is
  abbrev pub IsHome : A → List (Signed E) → List (maybe.Option (Option T)) → List (View A E) → Type 0
  IsHome start log homes views =
      ((state : T) × (get_elem? homes 0 ≡ some (some (Some state))) × stands state start (entries log)
      × ((i : ℕ) (view : View A E) → get_elem? views i ≡ some view → view.turn ≡ false))
      ⊎ ((i : ℕ) × (view : View A E) × (get_elem? views i ≡ some view) × (view.turn ≡ true))

module _ {T A E : Type 0} (stands : T → A → List E → Type 0) (law : A → List E → E → Type 0) where
  -- The words count tickets, turns and entries modulo 2^64, and all views agree on one history
  pub record GateRule (start : A) (state : State (Option T) (View A E)) : Type 0 where
    pub ledger : Ledger E
    pub words : state.words ≡ (ledger.all % 2 ^ 64) ∷ (ledger.done % 2 ^ 64) ∷ (length ledger.log % 2 ^ 64) ∷ []
    pub queue : Queue ledger.done ledger.all state.views
    pub history : IsHistory law start ledger.given ledger.log state.views
    pub each : (i : ℕ) (view : View A E) → get_elem? state.views i ≡ some view
        → ViewFits start ledger.log ledger.done ledger.all view
    pub names : NamesAgree ledger.given (map lineage state.views)
    pub home : IsHome stands start ledger.log state.homes state.views
