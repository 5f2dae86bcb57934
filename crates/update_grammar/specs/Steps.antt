-- Reading in steps, each of which may find a fault: the first that is found is the fault of the whole.
use Rattle.std.specs.Prelude.{ℕ, zero, suc, List, [], ◌∷◌, length, Result, Ok, Err}

-- a step, and then another over what the first one gave
infixl 10 ◌>>=◌
abbrev pub ◌>>=◌ : {A B E : Type 0} → Result A E → (A → Result B E) → Result B E
(Ok x) >>= f = f x
(Err e) >>= f = Err e

-- a fault in other words
abbrev pub blamed : {A D E : Type 0} → (D → E) → Result A D → Result A E
blamed say (Ok x) = Ok x
blamed say (Err d) = Err (say d)

-- The items that stand one after another, up to n of them. A step takes what is known before an item and the bytes from
-- there on, and gives the item, what is known behind it, and the bytes behind it.
unfoldable pub each_of : {S X E : Type 0} → (S → List ℕ → Result (X × S × List ℕ) E) → ℕ → S → List ℕ
    → Result (List X) E
each_of step zero known bytes = Ok []
each_of step (suc n) known [] = Ok []
each_of step (suc n) known (byte ∷ bytes) = do
  one ← step known (byte ∷ bytes)
  others ← each_of step n one.1 one.2
  Ok (one.0 ∷ others)

-- the items that the bytes are made of, where each takes at least one byte: so there are no more than bytes
abbrev pub each : {S X E : Type 0} → (S → List ℕ → Result (X × S × List ℕ) E) → S → List ℕ → Result (List X) E
each step known bytes = each_of step (length bytes) known bytes
