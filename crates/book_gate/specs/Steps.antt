-- What each step on the table tells the pass that makes it.
use Rattle.std.specs.Prelude.{◌≡◌, ◌≢◌, ◌⊎◌, ℕ, ◌+◌, ◌%◌, ◌^◌, ◌≤◌, List, [], ◌∷◌, ◌++◌, Option, Some, All, Contains}
use mathlib.Core.List.{IsPrefix}
use Rattle.atomic_table.specs.Table.{Me, Step}
use Rattle.book_gate.specs.declared.view.Signed.{Signed}
use Rattle.book_gate.specs.declared.view.View.{View}
use Rattle.book_gate.specs.Histories.{Legal, entries, entries_by, signed}
use Rattle.book_gate.specs.Names.{child_name}
use Rattle.book_gate.specs.Views.{KeepsLesson, own_names, with_ticket, at_turn, with_entry, at_rest}

module _ {E : Type 0} where
  -- Where the first pass has all others joined into it, each entry is its own or one of theirs
  abbrev pub AreNamed : List ℕ → List (List ℕ) → List (List ℕ) → List (Signed E) → Type 0
  AreNamed name split joined seen = name ≡ [] → All (Contains joined) split → (x : Signed E) → Contains seen x
      → (x.name ≡ []) ⊎ Contains joined x.name

module _ {A E : Type 0} (law : A → List E → E → Type 0) where
  -- What the view has seen is legal from its start
  abbrev pub SeesLegal : View A E → Type 0
  SeesLegal view = (start : A) → view.start ≡ Some start → Legal law start (entries view.seen)

  -- What the rule says of a view that is a pass
  pub record IsTold (view : View A E) : Type 0 where
    pub legal : SeesLegal view
    pub named : AreNamed view.name view.split view.joined view.seen
    pub fresh : entries_by (child_name view.name view.next) view.seen ≡ []
    pub lesson : KeepsLesson view
    pub room : view.room + 1 ≤ 2 ^ 62

  -- Counting the entry adds just it to the view's own entries, none to the joined ones, and leaves a legal history
  pub record Counts (view : View A E) (entry : E) : Type 0 where
    pub mine : entries_by view.name (with_entry view entry).seen
        ≡ entries_by view.name view.seen ++ signed view.name entry ∷ []
    pub joined : (name : List ℕ) → Contains view.joined name
        → entries_by name (with_entry view entry).seen ≡ entries_by name view.seen
    pub legal : SeesLegal (with_entry view entry)
    pub named : AreNamed view.name view.split view.joined (with_entry view entry).seen

module _ {S A E : Type 0} where
  -- A look by a pass changes nothing, and tells what the rule says of it
  abbrev pub reviewed : (A → List E → E → Type 0) → Step S → Me S (View A E) → ℕ → Me S (View A E) → Type 0
  reviewed law step me found me' = (me' ≡ me) × IsTold law me.0

  -- The pass has the ticket whose number was found
  abbrev pub taken : Step S → Me S (View A E) → ℕ → Me S (View A E) → Type 0
  taken step me found me' = (k : ℕ) × (k % 2 ^ 64 ≡ found) × (me' ≡ (with_ticket me.0 k, me.1))

  -- The ticket is given up
  abbrev pub served : Step S → Me S (View A E) → ℕ → Me S (View A E) → Type 0
  served step me found me' = me' ≡ (at_rest me.0, [])

  -- The entry that was said is counted
  abbrev pub counted : (A → List E → E → Type 0) → Option E → Step S → Me S (View A E) → ℕ → Me S (View A E) → Type 0
  counted law said step me found me' = (entry : E) → said ≡ Some entry
      → (me' ≡ (with_entry me.0 entry, me.1)) × Counts law me.0 entry

module _ {T A E : Type 0} (stands : T → A → List E → Type 0) where
  -- The pass has the state, has seen the history that it stands for, and finds there no entry of its names that it
  -- hadn't seen
  pub record GetsTurn (me me' : Me (Option T) (View A E)) : Type 0 where
    pub state : T
    pub history : List (Signed E)
    pub view : me' ≡ (at_turn me.0 history, (0, Some state) ∷ me.1)
    pub front : IsPrefix me.0.seen history
    pub own : (name : List ℕ) → Contains (own_names me.0) name → entries_by name history ≡ entries_by name me.0.seen
    pub stands_for : (start : A) → me.0.start ≡ Some start → stands state start (entries history)

  -- Where the number served is the ticket's, the turn has come; else nothing changes
  abbrev pub looked : Step (Option T) → Me (Option T) (View A E) → ℕ → Me (Option T) (View A E) → Type 0
  looked step me found me' = (k : ℕ) → me.0.ticket ≡ Some k
      → (found ≢ k % 2 ^ 64 → me' ≡ me) × (found ≡ k % 2 ^ 64 → GetsTurn me me')
