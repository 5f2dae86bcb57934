-- The queue at the lock: tickets that are out, and whose turn it is.
use Rattle.std.specs.Prelude.{◌≡◌, ℕ, ◌+◌, ◌^◌, ◌<◌, ◌≤◌, List, Option, Some, sum_by}
use mathlib.Core.Option.{some}
use lib.ListN.{get_elem?}
use Rattle.book_gate.specs.declared.view.View.{View}
use Rattle.book_gate.specs.Views.{ticket_of, tickets_of, places_of}

module _ {A E : Type 0} where
  -- No two views have one value of f
  abbrev pub IsUnique : {X : Type 0} → (View A E → Option X) → List (View A E) → Type 0
  IsUnique {X} f views =
      (i j : ℕ) (view other : View A E) (x : X) → get_elem? views i ≡ some view → get_elem? views j ≡ some other
      → f view ≡ Some x → f other ≡ Some x → i ≡ j

  -- Some view has the ticket k
  abbrev pub HasHolder : ℕ → List (View A E) → Type 0
  HasHolder k views = (i : ℕ) × (view : View A E) × (get_elem? views i ≡ some view) × (view.ticket ≡ Some k)

  -- The tickets out are the numbers from `done` on up to the last one before `all`, each with one view; the counts go
  -- on without end
  pub record Queue (done all : ℕ) (views : List (View A E)) : Type 0 where
    pub apart : IsUnique ticket_of views
    pub covers : (k : ℕ) → done ≤ k → k < all → HasHolder k views
    pub count : done + sum_by tickets_of views ≡ all
    pub few : sum_by places_of views ≤ 2 ^ 62
