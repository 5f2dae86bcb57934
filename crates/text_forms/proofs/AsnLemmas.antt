-- AS numbers as texts.
use Rattle.std.proofs.Common.{ℕ, ◌≡◌, ◌<◌, ◌^◌, ◌+◌, ◌*◌, List, ◌∷◌, ◌++◌, decimal, arith, sym, ◌∙◌, refl}
use Rattle.std.proofs.Common.{subst, inl, inr}
use Rattle.text_forms.specs.Numbers.{IsAsn, IsDottedAsn}
use Rattle.text_forms.proofs.CutLemmas.{Lacks, first_same, lacks_none, lacks_decimal, dot_no_digit}
use Rattle.text_forms.proofs.DecimalLemmas.{number_one}

dotless : (number : ℕ) → number < 2 ^ 32 → Lacks 46 (decimal number)
dotless number small = lacks_decimal 46 number dot_no_digit (omega arith)

-- no number's text has a dot
dotted_or_plain : (text : List ℕ) (other number : ℕ) → other < 2 ^ 32 → text ≡ decimal other
    → IsDottedAsn text number → ⊥
dotted_or_plain text other number small plain dotted =
    lacks_none 46 (decimal dotted.high) (decimal dotted.low)
    (subst (Lacks 46) (sym plain ∙ dotted.text_is) (dotless other small))

dotted_one : (text : List ℕ) (other number : ℕ) → IsDottedAsn text other → IsDottedAsn text number → other ≡ number
dotted_one text other number is also =
    let parts = first_same 46 (decimal is.high) _ (decimal also.high) _ (dotless is.high (omega (arith, is.high_small)))
    (dotless also.high (omega (arith, also.high_small))) (sym is.text_is ∙ also.text_is) in
    let high = number_one _ is.high also.high (omega (arith, is.high_small)) (omega (arith, also.high_small))
    refl parts.0 in
    let low = number_one _ is.low also.low (omega (arith, is.low_small)) (omega (arith, also.low_small))
    refl parts.1 in
    omega (arith, is.value, also.value, high, low)

-- a text spells one AS number at most
pub asn_one : (text : List ℕ) (other number : ℕ) → IsAsn text other → IsAsn text number → other ≡ number
asn_one text other number (some, small, inl plain) (also_some, small', inl plain') =
    number_one text other number small small' plain plain'
asn_one text other number (some, small, inl plain) (also_some, small', inr dotted') =
    absurd (dotted_or_plain text other number small plain dotted')
asn_one text other number (some, small, inr dotted) (also_some, small', inl plain') =
    absurd (dotted_or_plain text number other small' plain' dotted)
asn_one text other number (some, small, inr dotted) (also_some, small', inr dotted') =
    dotted_one text other number dotted dotted'

-- no AS number is spelled where neither a number nor two halves are
pub no_plain_asn : (text : List ℕ) (number : ℕ) → Lacks 46 text
    → ((other : ℕ) → 0 < other → other < 2 ^ 32 → text ≡ decimal other → ⊥) → IsAsn text number → ⊥
no_plain_asn text number lacks none (some, small, inl plain) = none number some small plain
no_plain_asn text number lacks none (some, small, inr dotted) =
    lacks_none 46 (decimal dotted.high) (decimal dotted.low) (subst (Lacks 46) dotted.text_is lacks)

pub no_dotted_asn : (text high low : List ℕ) (number : ℕ) → Lacks 46 high → text ≡ high ++ 46 ∷ low
    → ((upper lower : ℕ) → upper < 65536 → lower < 65536 → high ≡ decimal upper → low ≡ decimal lower
    → upper * 65536 + lower ≡ 0) → IsAsn text number → ⊥
no_dotted_asn text high low number lacks cut none (some, small, inl plain) =
    lacks_none 46 high low (subst (Lacks 46) (sym plain ∙ cut) (dotless number small))
no_dotted_asn text high low number lacks cut none (some, small, inr dotted) =
    let parts = first_same 46 high low (decimal dotted.high) (decimal dotted.low) lacks
    (dotless dotted.high (omega (arith, dotted.high_small))) (sym cut ∙ dotted.text_is) in
    let zero = none dotted.high dotted.low dotted.high_small dotted.low_small parts.0 parts.1 in
    absurd (omega (arith, some, dotted.value, zero))
