-- Bytes that are made of pieces.
use Rattle.std.specs.Prelude.{ℕ, ◌≡◌, List, [], ◌∷◌, ◌++◌, length}
use Rattle.std.specs.Int.{w16, to_be_bytes}

-- the bytes are pieces end to end, one for each item, and each piece spells its item
abbrev pub SpellsEach : {A : Type 0} → (List ℕ → A → Type 0) → List ℕ → List A → Type 0
SpellsEach Piece bytes [] = bytes ≡ []
SpellsEach Piece bytes (x ∷ xs) =
    (front : List ℕ) × (rest : List ℕ) × (bytes ≡ front ++ rest) × Piece front x × SpellsEach Piece rest xs

-- bytes behind their number, which has two bytes
abbrev pub counted : List ℕ → List ℕ
counted bytes = to_be_bytes w16 (length bytes) ++ bytes
