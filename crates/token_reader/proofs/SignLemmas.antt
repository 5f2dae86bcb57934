-- Signs that exclude each other.
use Rattle.std.proofs.Common.{ℕ, ◌≡◌, Bool, true, false, not, ◌||◌, ◌==◌, nat_eq, List, [], ◌∷◌, ap, ◌∙◌, refl}
use Rattle.std.proofs.lemmas.Bool.{false≢true, eqb-true, and_parts}
use Rattle.std.specs.List.{list_any, list_all}

pub unlike : (test : Bool) → not test ≡ true → test ≡ false
unlike true is = absurd (false≢true is)
unlike false is = refl

-- one of some signs fails a test that each of them fails
apart_more : (q : ℕ → Bool) (b x : ℕ) (others : Bool) (test : Bool) → (b == x) ≡ test → q x ≡ false
    → (others ≡ true → q b ≡ false) → (test || others) ≡ true → q b ≡ false
apart_more q b x others true same fails more any = ap q (eqb-true b x same) ∙ fails
apart_more q b x others false same fails more any = more any

pub apart : (q : ℕ → Bool) (signs : List ℕ) (b : ℕ) → list_all (λ sign. not (q sign)) signs ≡ true
    → list_any (nat_eq b) signs ≡ true → q b ≡ false
apart q [] b all any = absurd (false≢true any)
apart q (x ∷ signs) b all any =
    let parts = and_parts (not (q x)) (list_all (λ sign. not (q sign)) signs) all in
    apart_more q b x (list_any (nat_eq b) signs) (b == x) refl (unlike (q x) parts.0) (apart q signs b parts.1) any
