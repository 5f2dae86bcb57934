-- An extended community in lower-case digits is read as its eight bytes.
use Rattle.std.proofs.Common.{ℕ, zero, suc, ◌≡◌, ◌==◌, ◌+◌, ◌*◌, ◌/◌, ◌%◌, ◌<◌, ◌&&◌, Bool, true, List, [], ◌∷◌, length}
use Rattle.std.proofs.Common.{get_or, ap, sym, ◌∙◌, refl, subst, inl, inr, arith}
use Rattle.std.specs.Char.{digit_value}
use Rattle.std.specs.List.{AllByRecursion}
use Rattle.std.specs.Int.{w64, from_be_bytes}
use Rattle.std.specs.Int.Digits.{number_from_digits, number_from_digits_after}
use Rattle.std.specs.Str.Parse.{AllDigits, digits_value, digits_value_after}
use Rattle.std.proofs.lemmas.Bool.{and_parts, cases_lt, eqb-true}
use Rattle.std.proofs.lemmas.Nat.{be_bytes_8}
use Rattle.hex.specs.Hex.{lower_digits, encode_with, encode_lower}
use Rattle.hex.proofs.HexLemmas.{length-encode_with}
use Rattle.route_grammar.specs.Communities.{IsExtended}
use Rattle.update_grammar.specs.Values.{IsExt}
use Rattle.text_printer.specs.Items.{extended_text}
use Rattle.text_printer.specs.Laws.{AreBytes}

-- each digit has its place's value
all_values : ℕ → Bool
all_values zero = true
all_values (suc n) = (digit_value (get_or lower_digits n 0) == n) && all_values n

value_within : (value n : ℕ) → value < n → all_values n ≡ true → digit_value (get_or lower_digits value 0) ≡ value
unfolding all_values
value_within value zero small all = absurd (omega arith)
value_within value (suc n) small all =
    let parts = and_parts (digit_value (get_or lower_digits n 0) == n) (all_values n) all in
    elim (cases_lt value n) [
      | inl within ↦ value_within value n within parts.1
      | inr past ↦ let same : n ≡ value = omega arith in
          subst (λ one. digit_value (get_or lower_digits one 0) ≡ one) same
          (eqb-true (digit_value (get_or lower_digits n 0)) n parts.0)
    ]

lower_value : (value : ℕ) → value < 16 → digit_value (get_or lower_digits value 0) ≡ value
unfolding all_values
lower_value value small = value_within value 16 small refl

encoded_digits : (bytes : List ℕ) → AreBytes bytes → AllDigits 16 (encode_with lower_digits bytes)
unfolding encode_with
encoded_digits [] are = tt
encoded_digits (byte ∷ bytes) are =
    let small = are.0 in
    let high = lower_value (byte / 16) (omega arith) in
    let low = lower_value (byte % 16) (omega arith) in
    (omega (arith, small, high), (omega (arith, small, low), encoded_digits bytes are.1))

-- two digits are one byte more
encoded_value : (bytes : List ℕ) (n : ℕ) → AreBytes bytes
    → digits_value_after 16 n (encode_with lower_digits bytes) ≡ number_from_digits_after 256 n bytes
unfolding encode_with
encoded_value [] n are = refl
encoded_value (byte ∷ bytes) n are =
    let small = are.0 in
    let high = lower_value (byte / 16) (omega arith) in
    let low = lower_value (byte % 16) (omega arith) in
    let both : (n * 16 + digit_value (get_or lower_digits (byte / 16) 0)) * 16
    + digit_value (get_or lower_digits (byte % 16) 0) ≡ n * 256 + byte = omega (arith, high, low) in
    ap (λ value. digits_value_after 16 value (encode_with lower_digits bytes)) both
    ∙ encoded_value bytes (n * 256 + byte) are.1

eight_value : (bytes : List ℕ) → length bytes ≡ 8 → number_from_digits 256 bytes ≡ from_be_bytes w64 bytes
eight_value [] len = absurd (omega (arith, len))
eight_value (a ∷ []) len = absurd (omega (arith, len))
eight_value (a ∷ b ∷ []) len = absurd (omega (arith, len))
eight_value (a ∷ b ∷ c ∷ []) len = absurd (omega (arith, len))
eight_value (a ∷ b ∷ c ∷ d ∷ []) len = absurd (omega (arith, len))
eight_value (a ∷ b ∷ c ∷ d ∷ e ∷ []) len = absurd (omega (arith, len))
eight_value (a ∷ b ∷ c ∷ d ∷ e ∷ f ∷ []) len = absurd (omega (arith, len))
eight_value (a ∷ b ∷ c ∷ d ∷ e ∷ f ∷ g ∷ []) len = absurd (omega (arith, len))
eight_value (a ∷ b ∷ c ∷ d ∷ e ∷ f ∷ g ∷ h ∷ []) len = omega arith
eight_value (a ∷ b ∷ c ∷ d ∷ e ∷ f ∷ g ∷ h ∷ next ∷ others) len = absurd (omega (arith, len))

byte_at : (bytes : List ℕ) → AreBytes bytes → (i : ℕ) → get_or bytes i 0 < 256
byte_at [] are i = omega arith
byte_at (byte ∷ bytes) are zero = are.0
byte_at (byte ∷ bytes) are (suc i) = byte_at bytes are.1 i

-- eight bytes
pub record IsEight (bytes : List ℕ) : Type 0 where
  pub len : length bytes ≡ 8
  pub are : AreBytes bytes

pub all_eight : (exts : List (List ℕ)) → AllByRecursion IsExt exts → AllByRecursion AreBytes exts
    → AllByRecursion IsEight exts
all_eight [] long are = tt
all_eight (ext ∷ exts) long are = (record { len = long.0; are = are.0 }, all_eight exts long.1 are.1)

pub extended_said : (bytes : List ℕ) → IsEight bytes → IsExtended (extended_text bytes) bytes
extended_said bytes eight =
    let len = eight.len in
    inl (record {
      digits = encode_lower bytes;
      sixteen = omega (arith, len, length-encode_with lower_digits bytes);
      are_digits = encoded_digits bytes eight.are;
      word_is = refl;
      value =
          sym (be_bytes_8 bytes (digits_value 16 (encode_lower bytes)) len (byte_at bytes eight.are)
          (encoded_value bytes 0 eight.are ∙ eight_value bytes len));
    })
