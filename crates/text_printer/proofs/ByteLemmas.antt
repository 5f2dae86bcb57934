-- Bytes that words are made of, and words that are put together.
use Rattle.std.proofs.Common.{ℕ, ◌≡◌, ◌≢◌, ◌<◌, ◌≤◌, ◌^◌, ◌||◌, ◌&&◌, not, false, true, List, [], ◌∷◌, ◌++◌, length}
use Rattle.std.proofs.Common.{codes}
use Rattle.std.proofs.Common.{ap, ◌∙◌, refl, arith, nat_eq, nat_lt, ne_eqb, decimal}
use Rattle.std.specs.Char.{digit_value}
use Rattle.std.specs.Fmt.{digits}
use Rattle.std.specs.List.{AllByRecursion, list_all, list_any}
use Rattle.std.specs.Str.Parse.{AllDigits}
use Rattle.std.proofs.lemmas.Bool.{and_parts, ltb-true}
use Rattle.std.proofs.lemmas.Fmt.{digits_is_IsNumeral}
use Rattle.std.proofs.lemmas.List.{length-append}
use Rattle.token_reader.specs.Signs.{is_line_mark, is_line_word}
use Rattle.text_printer.proofs.TokenLemmas.{IsWordByte, AreWordBytes, IsWordText, IsShortWord}

-- a byte that differs from some signs is none of them
none_of : (b : ℕ) (signs : List ℕ) → AllByRecursion (λ sign. b ≢ sign) signs → list_any (nat_eq b) signs ≡ false
none_of b [] apart = refl
none_of b (sign ∷ signs) apart =
    ap (λ test. test || list_any (nat_eq b) signs) (ne_eqb b sign apart.0) ∙ none_of b signs apart.1

other_byte : (b : ℕ) → AllByRecursion (λ sign. b ≢ sign) (codes " \t")
    → AllByRecursion (λ sign. b ≢ sign) (codes "[](),") → IsWordByte b
other_byte b no_blank no_mark =
    ap (λ test. not (test || is_line_mark b)) (none_of b (codes " \t") no_blank)
    ∙ ap (λ test. not test) (none_of b (codes "[](),") no_mark)

-- the digit of a value below 16, of either case
pub digit_byte : (b : ℕ) → digit_value b < 16 → IsWordByte b
digit_byte b small =
    let unlike : (sign : ℕ) → digit_value sign ≡ 36 → b ≢ sign =
    λ sign none same. let value = ap digit_value same in omega (arith, value, none, small) in
    other_byte b (unlike 32 refl, (unlike 9 refl, tt))
    (unlike 91 refl, (unlike 93 refl, (unlike 40 refl, (unlike 41 refl, (unlike 44 refl, tt)))))

digit_bytes : (radix : ℕ) (text : List ℕ) → radix ≤ 16 → AllDigits radix text → AreWordBytes text
digit_bytes radix [] few all = tt
digit_bytes radix (b ∷ bs) few all =
    let small = all.0 in (digit_byte b (omega arith), digit_bytes radix bs few all.1)

-- a word that is given
pub all_bytes : (text : List ℕ) → list_all is_line_word text ≡ true → AreWordBytes text
all_bytes [] all = tt
all_bytes (b ∷ bs) all =
    let parts = and_parts (is_line_word b) (list_all is_line_word bs) all in (parts.0, all_bytes bs parts.1)

given_text : (text : List ℕ) → nat_lt 0 (length text) ≡ true → list_all is_line_word text ≡ true
    → IsWordText text
given_text text filled all = record { filled = ltb-true 0 (length text) filled; bytes = all_bytes text all }

pub given_word : (text : List ℕ) → (nat_lt 0 (length text) && nat_lt (length text) 44) ≡ true
    → list_all is_line_word text ≡ true → IsShortWord text
given_word text sized all =
    let sizes = and_parts (nat_lt 0 (length text)) (nat_lt (length text) 44) sized in
    let short = ltb-true (length text) 44 sizes.1 in
    record { text_is = given_text text sizes.0 all; short = omega (arith, short) }

-- a number's digits
pub decimal_text : (n : ℕ) → n < 2 ^ 64 → IsWordText (decimal n)
decimal_text n small =
    let read = digits_is_IsNumeral 10 false (omega arith) (omega arith) n (omega arith) in
    record { filled = read.0.0; bytes = digit_bytes 10 (decimal n) (omega arith) read.0.1 }

pub hexadecimal_text : (n : ℕ) → n < 2 ^ 64 → IsWordText (digits 16 false n)
hexadecimal_text n small =
    let read = digits_is_IsNumeral 16 false (omega arith) (omega arith) n (omega arith) in
    record { filled = read.0.0; bytes = digit_bytes 16 (digits 16 false n) (omega arith) read.0.1 }

pub bytes_append : (front back : List ℕ) → AreWordBytes front → AreWordBytes back → AreWordBytes (front ++ back)
bytes_append [] back first second = second
bytes_append (b ∷ front) back first second = (first.0, bytes_append front back first.1 second)

-- two texts that a sign joins
pub joined_text : (sign : ℕ) (front back : List ℕ) → IsWordByte sign → IsWordText front → AreWordBytes back
    → IsWordText (front ++ sign ∷ back)
joined_text sign front back is first second =
    let filled = first.filled in
    record {
      filled = omega (arith, length-append front (sign ∷ back));
      bytes = bytes_append front (sign ∷ back) first.bytes (is, second);
    }
