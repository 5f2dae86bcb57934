-- Texts that are cut at a byte.
use Rattle.std.proofs.Common.{ℕ, ◌≡◌, ◌≢◌, ◌<◌, ◌^◌, true, List, [], ◌∷◌, ◌++◌, All, decimal, ap, sym, ◌∙◌, refl}
use Rattle.std.specs.List.{AllByRecursion}
use Rattle.std.specs.Str.{all_ascii_digits}
use Rattle.std.specs.Char.{is_ascii_digit}
use Rattle.std.proofs.lemmas.Fmt.{digits_decimal}
use Rattle.std.proofs.lemmas.Str.Parse.{numerals_by_value, tells_all_ascii_digits}
use Rattle.std.proofs.lemmas.Bool.{and_parts}
use Rattle.std.proofs.lemmas.List.Elements.{recursion_from_All}

-- the byte stands nowhere in the text
abbrev pub Lacks : ℕ → List ℕ → Type 0
Lacks byte text = AllByRecursion (λ b. b ≢ byte) text

pub lacks_from_all : (byte : ℕ) (text : List ℕ) → All (λ b. b ≢ byte) text → Lacks byte text
lacks_from_all byte text all = recursion_from_All (λ b. b ≢ byte) text all

lacks_digits : (byte : ℕ) (digits : List ℕ) → (is_ascii_digit byte ≡ true → ⊥) → all_ascii_digits digits ≡ true
    → Lacks byte digits
lacks_digits byte [] unlike all_digits = tt
lacks_digits byte (digit ∷ digits) unlike all_digits =
    let parts = and_parts (is_ascii_digit digit) (all_ascii_digits digits) all_digits in
    ((λ same. unlike (ap is_ascii_digit (sym same) ∙ parts.0)), lacks_digits byte digits unlike parts.1)

-- a number's text has digits alone
pub lacks_decimal : (byte n : ℕ) → (is_ascii_digit byte ≡ true → ⊥) → n < 2 ^ 64 → Lacks byte (decimal n)
lacks_decimal byte n unlike small =
    lacks_digits byte (decimal n) unlike (digits_decimal (numerals_by_value _ tells_all_ascii_digits) n small)

-- a text is cut at the first such byte in one way
pub first_same : (byte : ℕ) (front back front' back' : List ℕ) → Lacks byte front → Lacks byte front'
    → front ++ byte ∷ back ≡ front' ++ byte ∷ back' → (front ≡ front') × (back ≡ back')
first_same byte [] back [] back' lacks lacks' same = (refl, cc)
first_same byte [] back (c ∷ front') back' lacks lacks' same = absurd (lacks'.0 (cc))
first_same byte (c ∷ front) back [] back' lacks lacks' same = absurd (lacks.0 (cc))
first_same byte (c ∷ front) back (d ∷ front') back' lacks lacks' same =
    let rest = first_same byte front back front' back' lacks.1 lacks'.1 (cc) in
    let heads : c ≡ d = cc in
    let tails : front ≡ front' = rest.0 in
    (cc, rest.1)

pub lacks_none : (byte : ℕ) (front back : List ℕ) → Lacks byte (front ++ byte ∷ back) → ⊥
lacks_none byte [] back lacks = lacks.0 refl
lacks_none byte (c ∷ front) back lacks = lacks_none byte front back lacks.1

pub lacks_append : (byte : ℕ) (front back : List ℕ) → Lacks byte front → Lacks byte back → Lacks byte (front ++ back)
lacks_append byte [] back first second = second
lacks_append byte (c ∷ front) back first second = (first.0, lacks_append byte front back first.1 second)

pub dot_no_digit : is_ascii_digit 46 ≡ true → ⊥
dot_no_digit digit = absurd (cc)

pub slash_no_digit : is_ascii_digit 47 ≡ true → ⊥
slash_no_digit digit = absurd (cc)
