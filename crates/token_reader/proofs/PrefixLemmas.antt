-- The bytes from the front on that pass a test.
use Rattle.std.proofs.Common.{ℕ, suc, ◌≡◌, ◌+◌, Bool, true, false, cond, List, [], ◌∷◌, ◌++◌, length, take, drop, arith}
use Rattle.std.proofs.Common.{ap, ◌∙◌, refl, subst}
use Rattle.std.specs.List.{AllByRecursion, prefix_len}
use Rattle.token_reader.specs.Signs.{begins}

more : (n : ℕ) → suc n ≡ 1 + n
more n = omega arith

module _ (p : ℕ → Bool) where
  -- they are those that stand before one that doesn't
  pub prefix_len-whole : (front rest : List ℕ) → AllByRecursion (λ b. p b ≡ true) front → begins p rest ≡ false
      → prefix_len p (front ++ rest) ≡ length front
  prefix_len-whole [] [] all ends = refl
  prefix_len-whole [] (b ∷ rest) all ends = ap (λ test. cond test (1 + prefix_len p rest) 0) ends
  prefix_len-whole (b ∷ front) rest all ends =
      ap (λ test. cond test (1 + prefix_len p (front ++ rest)) 0) all.0
      ∙ omega (arith, prefix_len-whole front rest all.1 ends)

  passes_more : (test : Bool) (b : ℕ) (bs : List ℕ) (n : ℕ) → p b ≡ test → AllByRecursion (λ x. p x ≡ true) (take n bs)
      → AllByRecursion (λ x. p x ≡ true) (take (cond test (1 + n) 0) (b ∷ bs))
  passes_more true b bs n is all =
      subst (λ k. AllByRecursion (λ x. p x ≡ true) (take k (b ∷ bs))) (more n) (is, all)
  passes_more false b bs n is all = tt

  -- each of them passes
  pub prefix_passes : (bs : List ℕ) → AllByRecursion (λ b. p b ≡ true) (take (prefix_len p bs) bs)
  prefix_passes [] = tt
  prefix_passes (b ∷ bs) = passes_more (p b) b bs (prefix_len p bs) refl (prefix_passes bs)

  ends_more : (test : Bool) (b : ℕ) (bs : List ℕ) (n : ℕ) → p b ≡ test → begins p (drop n bs) ≡ false
      → begins p (drop (cond test (1 + n) 0) (b ∷ bs)) ≡ false
  ends_more true b bs n is ends = subst (λ k. begins p (drop k (b ∷ bs)) ≡ false) (more n) ends
  ends_more false b bs n is ends = is

  -- and what stands behind them begins with none
  pub prefix_ends : (bs : List ℕ) → begins p (drop (prefix_len p bs) bs) ≡ false
  prefix_ends [] = refl
  prefix_ends (b ∷ bs) = ends_more (p b) b bs (prefix_len p bs) refl (prefix_ends bs)
