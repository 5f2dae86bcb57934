-- Facts of each item of a list, and pieces end to end.
use Rattle.std.proofs.Common.{ℕ, List, [], ◌∷◌, ◌++◌, refl}
use Rattle.std.specs.List.{flat_map, AllByRecursion}
use Rattle.update_grammar.specs.Pieces.{SpellsEach}

-- what holds of each item of two lists holds of each of both together
pub all_append : {A : Type 0} (P : A → Type 0) (xs ys : List A) → AllByRecursion P xs → AllByRecursion P ys
    → AllByRecursion P (xs ++ ys)
all_append P [] ys fronts rests = rests
all_append P (x ∷ xs) ys fronts rests = (fronts.0, all_append P xs ys fronts.1 rests)

-- what follows from a fact of each item holds of each item
pub all_map : {A : Type 0} (P Q : A → Type 0) → ((x : A) → P x → Q x) → (xs : List A) → AllByRecursion P xs
    → AllByRecursion Q xs
all_map P Q step [] facts = tt
all_map P Q step (x ∷ xs) facts = (step x facts.0, all_map P Q step xs facts.1)

-- a fact of each item answers a question of each item
pub all_apply : {A : Type 0} (P Q : A → Type 0) (xs : List A) → AllByRecursion P xs → AllByRecursion (λ x. P x → Q x) xs
    → AllByRecursion Q xs
all_apply P Q [] facts steps = tt
all_apply P Q (x ∷ xs) facts steps = (steps.0 facts.0, all_apply P Q xs facts.1 steps.1)

-- pieces that are written one by one are read one by one
pub pieces_spelled : {A : Type 0} (Piece : List ℕ → A → Type 0) (Fit : A → Type 0) (text : A → List ℕ)
    → ((x : A) → Fit x → Piece (text x) x) → (xs : List A) → AllByRecursion Fit xs
    → SpellsEach Piece (flat_map text xs) xs
pieces_spelled Piece Fit text each [] fit = refl
pieces_spelled Piece Fit text each (x ∷ xs) fit = (
  text x,
  flat_map text xs,
  refl,
  each x fit.0,
  pieces_spelled Piece Fit text each xs fit.1,
)
