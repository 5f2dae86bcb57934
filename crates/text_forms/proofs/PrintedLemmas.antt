-- Groups of hexadecimal digits as they are printed.
use Rattle.std.proofs.Common.{ℕ, suc, ◌≡◌, ◌<◌, ◌≤◌, ◌+◌, ◌/◌, ◌%◌, false, cond, List, [], ◌∷◌, ◌++◌, arith, ap, sym}
use Rattle.std.proofs.Common.{◌∙◌, refl}
use Rattle.std.proofs.Common.{append_assoc, eq-eqb, ne_eqb, length, ⊎_elim}
use Rattle.std.proofs.lemmas.Bool.{cases_lt}
use Rattle.std.specs.Fmt.{digits, digits_onto, digit_glyph}
use Rattle.text_forms.specs.Printed.{group_at, group_text, padded_group, led_groups}

-- the last digit of a number
abbrev glyph : ℕ → ℕ
glyph n = digit_glyph false (n % 16)

-- the last k digits of a number at most, and then what is printed already
abbrev onto : ℕ → ℕ → List ℕ → List ℕ
onto k n acc = digits_onto k 16 false n acc

onto_last : (k n : ℕ) (acc : List ℕ) → n < 16 → onto (suc k) n acc ≡ glyph n ∷ acc
onto_last k n acc small = ap (λ t. cond t (glyph n ∷ acc) (onto k (n / 16) (glyph n ∷ acc)))
    (eq-eqb (n / 16) 0 (omega arith))

onto_next : (k n : ℕ) (acc : List ℕ) → 16 ≤ n → onto (suc k) n acc ≡ onto k (n / 16) (glyph n ∷ acc)
onto_next k n acc large =
    ap (λ t. cond t (glyph n ∷ acc) (onto k (n / 16) (glyph n ∷ acc))) (ne_eqb (n / 16) 0 (λ none. omega arith))

group_text-onto : (n : ℕ) → group_text n ≡ onto 64 n []
unfolding digits
group_text-onto n = refl

pub one_digit : (n : ℕ) → n < 16 → group_text n ≡ glyph n ∷ []
one_digit n small = group_text-onto n ∙ onto_last 63 n [] small

pub two_digits : (n : ℕ) → 16 ≤ n → n < 256 → group_text n ≡ digit_glyph false (n / 16 % 16) ∷ glyph n ∷ []
two_digits n large small =
    group_text-onto n ∙ onto_next 63 n [] large ∙ onto_last 62 (n / 16) (glyph n ∷ []) (omega arith)

pub three_digits : (n : ℕ) → 256 ≤ n → n < 4096
    → group_text n ≡ digit_glyph false (n / 256 % 16) ∷ digit_glyph false (n / 16 % 16) ∷ glyph n ∷ []
three_digits n large small =
    let top : n / 16 / 16 % 16 ≡ n / 256 % 16 = omega arith in
    group_text-onto n ∙ onto_next 63 n [] (omega arith) ∙ onto_next 62 (n / 16) (glyph n ∷ []) (omega arith)
    ∙ onto_last 61 (n / 16 / 16) (glyph (n / 16) ∷ glyph n ∷ []) (omega arith)
    ∙ ap (λ d. digit_glyph false d ∷ glyph (n / 16) ∷ glyph n ∷ []) top

pub four_digits : (n : ℕ) → 4096 ≤ n → n < 65536 → group_text n ≡ padded_group n
four_digits n large small =
    let top : n / 16 / 16 / 16 % 16 ≡ n / 4096 = omega arith in
    let next : n / 16 / 16 % 16 ≡ n / 256 % 16 = omega arith in
    group_text-onto n ∙ onto_next 63 n [] (omega arith) ∙ onto_next 62 (n / 16) (glyph n ∷ []) (omega arith)
    ∙ onto_next 61 (n / 16 / 16) (glyph (n / 16) ∷ glyph n ∷ []) (omega arith)
    ∙ onto_last 60 (n / 16 / 16 / 16) (glyph (n / 16 / 16) ∷ glyph (n / 16) ∷ glyph n ∷ []) (omega arith)
    ∙ ap (λ d. digit_glyph false d ∷ glyph (n / 16 / 16) ∷ glyph (n / 16) ∷ glyph n ∷ []) top
    ∙ ap (λ d. digit_glyph false (n / 4096) ∷ digit_glyph false d ∷ glyph (n / 16) ∷ glyph n ∷ []) next

-- a group takes four digits at most
pub group_text-short : (n : ℕ) → n < 65536 → length (group_text n) ≤ 4
group_text-short n small =
    ⊎_elim (λ (is : n < 16). omega (arith, ap length (one_digit n is)))
    (λ (least : 16 ≤ n). ⊎_elim (λ (is : n < 256). omega (arith, ap length (two_digits n least is)))
    (λ (more : 256 ≤ n). ⊎_elim (λ (is : n < 4096). omega (arith, ap length (three_digits n more is)))
    (λ (most : 4096 ≤ n). omega (arith, ap length (four_digits n most small)))
    (cases_lt n 4096)) (cases_lt n 256)) (cases_lt n 16)

pub led_groups-none : (n : ℕ) → led_groups 0 n ≡ []
unfolding led_groups
led_groups-none n = refl

pub led_groups-step : (k n : ℕ) → led_groups (suc k) n ≡ 58 ∷ (group_text (group_at k n) ++ led_groups k n)
unfolding led_groups
led_groups-step k n = refl

-- one group more is put
pub led_next : (k n group : ℕ) (old new text : List ℕ) → group ≡ group_at k n → new ≡ old ++ 58 ∷ group_text group
    → old ++ led_groups (suc k) n ≡ text → new ++ led_groups k n ≡ text
led_next k n group old new text is put rest =
    ap (λ out. out ++ led_groups k n) (put ∙ ap (λ number. old ++ 58 ∷ group_text number) is)
    ∙ append_assoc old (58 ∷ group_text (group_at k n)) (led_groups k n)
    ∙ ap (λ more. old ++ more) (sym (led_groups-step k n)) ∙ rest
