-- Two words.
use Rattle.std.proofs.Common.{◌≡◌, ℕ, true, true≢false, List, [], ◌∷◌, map, length, refl, sym, ap, arith}
use Rattle.std.specs.Prelude.{nat_eq, slice_index_or}
use Rattle.std.specs.Cmp.Lexicographic.{pointwise}
use Rattle.std.proofs.lemmas.Bool.Decides.{nat_tests}

pub two_words : {X : Type 0} (text : X → List ℕ) (words : List X) (d : X) (name : List ℕ) → length words ≡ 2
    → text (slice_index_or words 0 d) ≡ name → map text words ≡ name ∷ text (slice_index_or words 1 d) ∷ []
two_words text [] d name len is = absurd (omega arith)
two_words text (word ∷ []) d name len is = absurd (omega arith)
two_words text (word ∷ path ∷ []) d name len is = ap (λ (it : List ℕ). it ∷ text path ∷ []) is
two_words text (word ∷ path ∷ other ∷ more) d name len is = absurd (omega arith)

-- a text that passes the comparison with another is that one
pub same_text : (text other : List ℕ) → pointwise nat_eq text other ≡ true → text ≡ other
same_text [] [] is = refl
same_text [] (y ∷ ys) is = absurd (true≢false (sym is))
same_text (x ∷ xs) [] is = absurd (true≢false (sym is))
same_text (x ∷ xs) (y ∷ ys) is = grind (arith, nat_tests, same_text xs ys)
