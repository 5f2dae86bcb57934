-- Histories of calls: what it is to follow one, and to be legal.
use Rattle.std.specs.Prelude.{ℕ, Bool, true, false, ◌&&◌, ◌==◌, List, [], ◌∷◌, ◌++◌, map, filter}
use mathlib.Core.List.{IsPrefix}
use Rattle.book_gate.specs.declared.view.Signed.{Signed}

module _ {T A E : Type 0} (stands : T → A → List E → Type 0) (law : A → List E → E → Type 0) where
  -- Whatever history the old state stands for, the new one stands for that history with the entry, which the law allows
  -- there
  abbrev pub Follows : T → T → E → Type 0
  Follows before after entry = (start : A) (history : List E) → stands before start history
      → stands after start (history ++ entry ∷ []) × law start history entry

module _ {A E : Type 0} (law : A → List E → E → Type 0) where
  -- The law allows each entry behind those before it
  abbrev pub Legal : A → List E → Type 0
  Legal start history = (before : List E) (entry : E) → IsPrefix (before ++ entry ∷ []) history → law start before entry

-- Whether two names are one
abbrev pub is_name : List ℕ → List ℕ → Bool
is_name [] [] = true
is_name [] (y ∷ ys) = false
is_name (x ∷ xs) [] = false
is_name (x ∷ xs) (y ∷ ys) = (x == y) && is_name xs ys

module _ {E : Type 0} where
  -- The entries without the names
  abbrev pub entries : List (Signed E) → List E
  entries history = map (λ x. x.entry) history

  -- The entries that carry a name, in order
  abbrev pub entries_by : List ℕ → List (Signed E) → List (Signed E)
  entries_by name history = filter (λ x. is_name name x.name) history

  -- An entry under a name
  abbrev pub signed : List ℕ → E → Signed E
  signed name entry = record { name = name; entry = entry }
