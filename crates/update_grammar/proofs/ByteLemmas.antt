-- Bytes, which are numbers below 256, and numbers in so many bytes.
use Rattle.std.proofs.Common.{ℕ, zero, suc, ◌≡◌, ◌+◌, ◌-◌, ◌^◌, ◌<◌, ◌≤◌, List, [], ◌∷◌, ◌++◌, length, take, drop}
use Rattle.std.proofs.Common.{get_or, refl, sym, ap, ◌∙◌, arith, inl, inr}
use Rattle.std.specs.Int.{Width, w16, w32, byte_len, byte_worth, sum_through, to_be_bytes, from_be_bytes}
use Rattle.std.proofs.lemmas.Bool.{cases_lt}
use Rattle.std.proofs.lemmas.List.{length-take, get_or-drop, get_or-take, get_or_past, get_or_append_left}
use Rattle.std.proofs.lemmas.List.{take-append-drop}
use Rattle.std.proofs.lemmas.Nat.{be_bytes_2, be_bytes_4, from_be_bytes-to_be_bytes_2, from_be_bytes-to_be_bytes_4}
use Rattle.update_grammar.specs.Laws.{AreBytes}

-- the last of bytes are bytes
pub bytes_drop : (n : ℕ) (bytes : List ℕ) → AreBytes bytes → AreBytes (drop n bytes)
bytes_drop n bytes are i = rw get_or-drop (are (n + i))

-- the first of bytes are bytes
pub bytes_take : (n : ℕ) (bytes : List ℕ) → AreBytes bytes → AreBytes (take n bytes)
bytes_take n bytes are i =
    elim (cases_lt i n) [
      | inl lt ↦ rw (get_or-take n bytes i 0 lt) (are i)
      | inr le ↦ rw (get_or_past (take n bytes) i 0 (omega (arith, length-take n bytes))) (omega arith)
    ]

-- what stands behind a byte are bytes
pub bytes_rest : (byte : ℕ) (bytes : List ℕ) → AreBytes (byte ∷ bytes) → AreBytes bytes
bytes_rest byte bytes are i = are (suc i)

-- a byte before bytes
pub bytes_cons : (byte : ℕ) (bytes : List ℕ) → byte < 256 → AreBytes bytes → AreBytes (byte ∷ bytes)
bytes_cons byte bytes small are zero = small
bytes_cons byte bytes small are (suc i) = are i

-- the front of bytes are bytes
pub bytes_front : (front rest : List ℕ) → AreBytes (front ++ rest) → AreBytes front
bytes_front [] rest are = λ i. omega arith
bytes_front (byte ∷ front) rest are = bytes_cons byte front (are 0)
    (bytes_front front rest (bytes_rest byte (front ++ rest) are))

-- what stands behind the front of bytes are bytes
pub bytes_behind : (front rest : List ℕ) → AreBytes (front ++ rest) → AreBytes rest
bytes_behind [] rest are = are
bytes_behind (byte ∷ front) rest are = bytes_behind front rest (bytes_rest byte (front ++ rest) are)

-- sums of equal parts are equal
sum_same : (f g : ℕ → ℕ) (k : ℕ) → ((i : ℕ) → i ≤ k → f i ≡ g i) → sum_through f k ≡ sum_through g k
sum_same f g zero same = same 0 (omega arith)
sum_same f g (suc k) same =
    let before : sum_through f k ≡ sum_through g k = sum_same f g k (λ i le. same i (omega arith)) in
    let last : f (suc k) ≡ g (suc k) = same (suc k) (omega arith) in
    rw (before, last) refl

-- the number of bytes of a width is that of its first bytes
pub number_same : (w : Width) (bytes others : List ℕ) → 0 < byte_len w
    → ((i : ℕ) → i < byte_len w → get_or bytes i 0 ≡ get_or others i 0) → from_be_bytes w bytes ≡ from_be_bytes w others
number_same w bytes others wide same =
    sum_same (λ i. byte_worth (byte_len w - 1 - i) (get_or bytes i 0))
    (λ i. byte_worth (byte_len w - 1 - i) (get_or others i 0)) (byte_len w - 1)
    (λ i le. ap (byte_worth (byte_len w - 1 - i)) (same i (omega arith)))

-- a number in so many bytes
pub record IsWide (w : Width) (limit : ℕ) : Type 0 where
  pub wide : 0 < byte_len w
  pub len : (n : ℕ) → length (to_be_bytes w n) ≡ byte_len w
  pub back : (bytes : List ℕ) → length bytes ≡ byte_len w → AreBytes bytes
      → to_be_bytes w (from_be_bytes w bytes) ≡ bytes
  pub again : (n : ℕ) → n < limit → from_be_bytes w (to_be_bytes w n) ≡ n
  pub below : (bytes : List ℕ) → AreBytes bytes → from_be_bytes w bytes < limit

-- two bytes
pub wide16 : IsWide w16 (2 ^ 16)
wide16 = record {
  wide = omega arith;
  len = λ n. refl;
  back = λ bytes len are. be_bytes_2 bytes _ len are refl;
  again = λ n small. from_be_bytes-to_be_bytes_2 n small;
  below = λ bytes are. omega (arith, are 0, are 1);
}

-- four bytes
pub wide32 : IsWide w32 (2 ^ 32)
wide32 = record {
  wide = omega arith;
  len = λ n. refl;
  back = λ bytes len are. be_bytes_4 bytes _ len are refl;
  again = λ n small. from_be_bytes-to_be_bytes_4 n small;
  below = λ bytes are. omega (arith, are 0, are 1, are 2, are 3);
}

-- the number of bytes is that of the first of them
pub number_of_front : (w : Width) (limit : ℕ) → IsWide w limit → (front rest : List ℕ) → length front ≡ byte_len w
    → from_be_bytes w (front ++ rest) ≡ from_be_bytes w front
number_of_front w limit is front rest len = number_same w (front ++ rest) front is.wide
    (λ i lt. get_or_append_left front rest 0 i (omega arith))

-- also where it's the first of more bytes
pub number_of_take : (w : Width) (limit : ℕ) → IsWide w limit → (bytes : List ℕ)
    → from_be_bytes w (take (byte_len w) bytes) ≡ from_be_bytes w bytes
number_of_take w limit is bytes = number_same w (take (byte_len w) bytes) bytes is.wide
    (λ i lt. get_or-take (byte_len w) bytes i 0 lt)

-- a number that is written is read again, whatever stands behind it
pub number_read : (w : Width) (limit : ℕ) → IsWide w limit → (n : ℕ) (rest : List ℕ) → n < limit
    → from_be_bytes w (to_be_bytes w n ++ rest) ≡ n
number_read w limit is n rest small = number_of_front w limit is (to_be_bytes w n) rest (is.len n) ∙ is.again n small

-- bytes begin with the number that is read
pub number_written : (w : Width) (limit : ℕ) → IsWide w limit → (bytes : List ℕ) → AreBytes bytes
    → byte_len w ≤ length bytes → to_be_bytes w (from_be_bytes w bytes) ++ drop (byte_len w) bytes ≡ bytes
number_written w limit is bytes are long =
    let first : to_be_bytes w (from_be_bytes w (take (byte_len w) bytes)) ≡ take (byte_len w) bytes =
    is.back (take (byte_len w) bytes) (omega (arith, length-take (byte_len w) bytes))
    (bytes_take (byte_len w) bytes are) in
    let whole : to_be_bytes w (from_be_bytes w bytes) ≡ take (byte_len w) bytes =
    ap (to_be_bytes w) (sym (number_of_take w limit is bytes)) ∙ first in
    ap (λ (text : List ℕ). text ++ drop (byte_len w) bytes) whole ∙ take-append-drop (byte_len w) bytes
