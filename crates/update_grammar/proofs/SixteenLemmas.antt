-- Numbers in sixteen bytes.
use Rattle.std.proofs.Common.{ℕ, ◌≡◌, ◌+◌, ◌*◌, ◌/◌, ◌%◌, ◌^◌, ◌<◌, List, [], ◌∷◌, ◌++◌, length, take, drop, get_or}
use Rattle.std.proofs.Common.{arith, refl, sym, ap, ◌∙◌, length-take, length-drop}
use Rattle.std.specs.Int.{w64, w128, to_be_bytes, from_be_bytes}
use Rattle.std.proofs.lemmas.List.{take-append-drop, get_or-drop, get_or-take}
use Rattle.std.proofs.lemmas.Nat.{be_bytes_8, shr_high}
use Rattle.std.proofs.Math.Nat.{div-div-eq-div-mul}
use Rattle.update_grammar.specs.Laws.{AreBytes}
use Rattle.update_grammar.proofs.ByteLemmas.{IsWide, number_same, bytes_take, bytes_drop}

-- a number that is written is read again
sixteen_again : (n : ℕ) → n < 2 ^ 128 → from_be_bytes w128 (to_be_bytes w128 n) ≡ n
sixteen_again n small = omega arith

-- the upper eight bytes of a number
upper : (high low part : ℕ) → low < 2 ^ 64 → (high * 2 ^ 64 + low) / (2 ^ 64 * part) % 256 ≡ high / part % 256
upper high low part small = ap (λ n. n % 256) (sym (div-div-eq-div-mul (high * 2 ^ 64 + low) (2 ^ 64) part)
    ∙ ap (λ n. n / part) (shr_high high 64 low small))

-- a number of sixteen bytes is two of eight
halves : (high low : ℕ) → low < 2 ^ 64 → to_be_bytes w128 (high * 2 ^ 64 + low) ≡ to_be_bytes w64 high
    ++ to_be_bytes w64 low
halves high low small =
    let n : ℕ = high * 2 ^ 64 + low in
    let byte_7 : n / 256 ^ 7 % 256 ≡ low / 256 ^ 7 % 256 = omega arith in
    let byte_6 : n / 256 ^ 6 % 256 ≡ low / 256 ^ 6 % 256 = omega arith in
    let byte_5 : n / 256 ^ 5 % 256 ≡ low / 256 ^ 5 % 256 = omega arith in
    let byte_4 : n / 256 ^ 4 % 256 ≡ low / 256 ^ 4 % 256 = omega arith in
    let byte_3 : n / 256 ^ 3 % 256 ≡ low / 256 ^ 3 % 256 = omega arith in
    let byte_2 : n / 256 ^ 2 % 256 ≡ low / 256 ^ 2 % 256 = omega arith in
    let byte_1 : n / 256 % 256 ≡ low / 256 % 256 = omega arith in
    let byte_0 : n % 256 ≡ low % 256 = omega arith in
    let up = λ (part : ℕ). upper high low part small in
    let last : n / 2 ^ 64 % 256 ≡ high % 256 = omega arith in
    λ i. up (256 ^ 7) i ∷ up (256 ^ 6) i ∷ up (256 ^ 5) i ∷ up (256 ^ 4) i ∷ up (256 ^ 3) i ∷ up (256 ^ 2) i ∷ up 256 i
    ∷ last i ∷ byte_7 i ∷ byte_6 i ∷ byte_5 i ∷ byte_4 i ∷ byte_3 i ∷ byte_2 i ∷ byte_1 i ∷ byte_0 i ∷ []

-- and it is read from two halves
joined : (bytes : List ℕ) → from_be_bytes w128 bytes ≡ from_be_bytes w64 (take 8 bytes) * 2 ^ 64 + from_be_bytes w64
    (drop 8 bytes)
joined bytes =
    let front : from_be_bytes w64 (take 8 bytes) ≡ from_be_bytes w64 bytes =
    number_same w64 (take 8 bytes) bytes (omega arith) (λ i lt. get_or-take 8 bytes i 0 lt) in
    let behind : (i : ℕ) → get_or (drop 8 bytes) i 0 ≡ get_or bytes (8 + i) 0 = λ i. get_or-drop 8 bytes i 0 in
    omega (arith, front, behind 0, behind 1, behind 2, behind 3, behind 4, behind 5, behind 6, behind 7)

-- a number of eight bytes is below 2 ^ 64
eight_below : (bytes : List ℕ) → AreBytes bytes → from_be_bytes w64 bytes < 2 ^ 64
eight_below bytes are = omega (arith, are 0, are 1, are 2, are 3, are 4, are 5, are 6, are 7)

-- bytes are written again
sixteen_back : (bytes : List ℕ) → length bytes ≡ 16 → AreBytes bytes
    → to_be_bytes w128 (from_be_bytes w128 bytes) ≡ bytes
sixteen_back bytes len are =
    let high : List ℕ = take 8 bytes in
    let low : List ℕ = drop 8 bytes in
    let highs : AreBytes high = bytes_take 8 bytes are in
    let lows : AreBytes low = bytes_drop 8 bytes are in
    let high_back : to_be_bytes w64 (from_be_bytes w64 high) ≡ high =
    be_bytes_8 high _ (omega (arith, length-take 8 bytes)) highs refl in
    let low_back : to_be_bytes w64 (from_be_bytes w64 low) ≡ low =
    be_bytes_8 low _ (omega (arith, length-drop 8 bytes)) lows refl in
    let both : to_be_bytes w64 (from_be_bytes w64 high) ++ to_be_bytes w64 (from_be_bytes w64 low) ≡ high ++ low = λ i.
    high_back i ++ low_back i in
    ap (to_be_bytes w128) (joined bytes) ∙ halves (from_be_bytes w64 high) (from_be_bytes w64 low)
    (eight_below low lows) ∙ both ∙ take-append-drop 8 bytes

-- bytes are a number below 2 ^ 128
sixteen_below : (bytes : List ℕ) → AreBytes bytes → from_be_bytes w128 bytes < 2 ^ 128
sixteen_below bytes are =
    omega (
      arith,
      joined bytes,
      eight_below (take 8 bytes) (bytes_take 8 bytes are),
      eight_below (drop 8 bytes) (bytes_drop 8 bytes are),
    )

-- sixteen bytes
pub wide128 : IsWide w128 (2 ^ 128)
wide128 = record {
  wide = omega arith;
  len = λ n. refl;
  back = sixteen_back;
  again = sixteen_again;
  below = sixteen_below;
}
