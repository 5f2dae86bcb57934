-- Names of passes. The first pass has the empty name, and the k-th that is split off a pass has its name followed by k.
use Rattle.std.specs.Prelude.{◌≡◌, ◌⊎◌, ℕ, ◌<◌, Bool, true, List, [], ◌∷◌, ◌++◌, Contains}
use mathlib.Core.Option.{some}
use mathlib.Core.List.{IsPrefix}
use lib.ListN.{get_elem?}

-- What a view says of names
pub record Lineage : Type 0 where
  pub live : Bool
  pub name : List ℕ
  pub next : ℕ
  pub split : List (List ℕ)
  pub joined : List (List ℕ)

-- The name of the k-th pass that is split off the pass of this name
abbrev pub child_name : List ℕ → ℕ → List ℕ
child_name parent k = parent ++ k ∷ []

-- Where the pass of each name gave out `given` many names: the name was given out, and so were those that it begins
-- with
abbrev pub IsGivenOut : (List ℕ → ℕ) → List ℕ → Type 0
IsGivenOut given name = (parent : List ℕ) (k : ℕ) → IsPrefix (child_name parent k) name → k < given parent

-- The name was given out by this pass, or by one joined into it
abbrev pub IsGivenBy : (List ℕ → ℕ) → Lineage → List ℕ → Type 0
IsGivenBy given line name =
    (parent : List ℕ) × (k : ℕ) × (name ≡ child_name parent k) × (k < given parent)
    × ((parent ≡ line.name) ⊎ Contains line.joined parent)

-- What a pass says of names is true of the names given out
pub record IsTrueLine (given : List ℕ → ℕ) (line : Lineage) : Type 0 where
  pub out : IsGivenOut given line.name
  pub next : given line.name ≡ line.next
  pub split : (parent : List ℕ) (k : ℕ) → (parent ≡ line.name) ⊎ Contains line.joined parent → k < given parent
      → Contains line.split (child_name parent k)
  pub joined : (name : List ℕ) → Contains line.joined name → IsGivenOut given name
  pub only : (name : List ℕ) → Contains line.split name → IsGivenBy given line name

-- Two live passes have two names, and the one's name isn't joined into the other
pub record AreApart (i j : ℕ) (line other : Lineage) : Type 0 where
  pub one : line.name ≡ other.name → i ≡ j
  pub gone : Contains line.joined other.name → ⊥

-- What all live passes say of names agrees with the names given out
pub record NamesAgree (given : List ℕ → ℕ) (lines : List Lineage) : Type 0 where
  pub each : (i : ℕ) (line : Lineage) → get_elem? lines i ≡ some line → line.live ≡ true → IsTrueLine given line
  pub pairs : (i j : ℕ) (line other : Lineage) → get_elem? lines i ≡ some line → get_elem? lines j ≡ some other
      → line.live ≡ true → other.live ≡ true → AreApart i j line other
  pub unused : (name : List ℕ) → (IsGivenOut given name → ⊥) → given name ≡ 0
