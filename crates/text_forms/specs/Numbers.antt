-- AS numbers as texts (RFC 5396, section 2). A number's own text is its decimal digits.
use Rattle.std.specs.Prelude.{ℕ, ◌≡◌, ◌⊎◌, ◌+◌, ◌*◌, ◌^◌, ◌<◌, decimal, List, ◌∷◌, ◌++◌}

-- the two halves of 16 bits, joined by a dot
pub record IsDottedAsn (text : List ℕ) (number : ℕ) : Type 0 where
  pub high : ℕ
  pub low : ℕ
  pub high_small : high < 65536
  pub low_small : low < 65536
  pub text_is : text ≡ decimal high ++ 46 ∷ decimal low
  pub value : number ≡ high * 65536 + low

-- an AS number is not zero, and is spelled as one number or as two halves
abbrev pub IsAsn : List ℕ → ℕ → Type 0
IsAsn text number = (0 < number) × (number < 2 ^ 32) × ((text ≡ decimal number) ⊎ IsDottedAsn text number)
