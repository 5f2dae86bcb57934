-- The first replies of a list, which are read into a block of cells.
use Rattle.std.proofs.Common.{ℕ, ◌≡◌, min, List, ◌++◌, length, take, drop, ap, ◌∙◌, arith}
use Rattle.std.proofs.lemmas.List.{length-take-le, take_at, take_min, drop_min}

module _ {X : Type 0} where
  -- as many cells as were read hold the first n, or all
  pub taken_front : (n count : ℕ) (xs old new : List X) → count ≡ min n (length xs)
      → new ≡ take count xs ++ drop count old → take count new ≡ take n xs
  taken_front n count xs old new is read =
      ap (take count) read ∙ take_at (take count xs) (drop count old) count (length-take-le count xs (omega arith))
      ∙ ap (λ k. take k xs) is ∙ take_min n xs

  -- and the others are left
  pub taken_rest : (n count : ℕ) (xs : List X) → count ≡ min n (length xs) → drop count xs ≡ drop n xs
  taken_rest n count xs is = ap (λ k. drop k xs) is ∙ drop_min n xs
