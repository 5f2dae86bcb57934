-- The bytes that hold an address give the address back, and are compared as their numbers are.
use Rattle.std.proofs.Common.{ℕ, zero, suc, ◌≡◌, ◌+◌, ◌*◌, ◌/◌, ◌%◌, ◌^◌, ◌<◌, List, ◌∷◌, ◌++◌, replicate}
use Rattle.std.proofs.Common.{get_or, refl, sym, ap, subst, ◌∙◌, arith}
use Rattle.std.specs.Int.{w32, w128, from_be_bytes, to_be_bytes, bytes_high_first, byte_at}
use Rattle.std.specs.Cmp.{nat_cmp_is}
use Rattle.std.specs.Cmp.Lexicographic.{slice_cmp}
use Rattle.std.specs.declared.cmp.Ordering.{Ordering}
use Rattle.std.specs.declared.cmp.Ordering.TheVariants.{Less, Equal, Greater}
use Rattle.std.specs.Ordering.{nat_cmp, ordering_then, MatchOrdering}
use Rattle.std.proofs.Math.Arith.{mod-mul}
use Rattle.std.proofs.Math.Nat.{div-one, mod-lt, mod-eq_of_lt, pow-succ', one-le-pow, mul-le-mul_right}
use Rattle.std.proofs.lemmas.Cmp.{ranked}
use Rattle.std.proofs.lemmas.Nat.{div_below, div-add-mod'}
use Rattle.route_values.specs.declared.addr.Addr.{Addr}
use Rattle.route_values.specs.declared.addr.Addr.TheVariants.{V4, V6}
use Rattle.route_values.specs.declared.addr.Family.{Family}
use Rattle.route_values.specs.Addr.{family_of}
use Rattle.route_values.specs.Octets.{places, octets_of, addr_held}
use Rattle.route_values.specs.Prefix.{IsPrefix, IsStored}

-- ---- bytes of a number

-- a power of 256 is above zero, so that it may divide
pow_pos256 : (k : ℕ) → 0 < 256 ^ k
pow_pos256 k = let h = one-le-pow k 256 (omega arith) in omega arith

-- byte k of a number, which counts from the lowest
byte_is : (k n : ℕ) → byte_at k n ≡ n / 256 ^ k % 256
byte_is zero n = ap (λ m. m % 256) (sym (div-one n))
byte_is (suc k) n = refl

-- what byte k and those below it spell
one_byte : (k n : ℕ) → n % 256 ^ suc k ≡ byte_at k n * 256 ^ k + n % 256 ^ k
one_byte k n =
    ap (λ p. n % p) (pow-succ' 256 k) ∙ mod-mul n {m = 256} {c = 256 ^ k} (omega arith) (pow_pos256 k)
    ∙ ap (λ b. b * 256 ^ k + n % 256 ^ k) (sym (byte_is k n))

-- a number of k + 1 bytes has them as its places
pub places_are_bytes : (k n : ℕ) → n < 256 ^ suc k → places k n ≡ bytes_high_first (suc k) n
places_are_bytes k n small =
    let fits : n / 256 ^ k < 256 = div_below n (256 ^ k) 256 (pow_pos256 k) (omega (arith, small, pow-succ' 256 k)) in
    ap (λ b. b ∷ bytes_high_first k n) (sym (mod-eq_of_lt fits) ∙ sym (byte_is k n))

-- the places of a number give it back
four_again : (n : ℕ) (behind : List ℕ) → from_be_bytes w32 (places 3 n ++ behind) ≡ n
four_again n behind = omega (arith, one_byte 0 n, one_byte 1 n, one_byte 2 n, div-add-mod' n (256 ^ 3))

sixteen_again : (n : ℕ) → from_be_bytes w128 (places 15 n) ≡ n
sixteen_again n =
    omega (
      arith,
      one_byte 0 n,
      one_byte 1 n,
      one_byte 2 n,
      one_byte 3 n,
      one_byte 4 n,
      one_byte 5 n,
      one_byte 6 n,
      one_byte 7 n,
      one_byte 8 n,
      one_byte 9 n,
      one_byte 10 n,
      one_byte 11 n,
      one_byte 12 n,
      one_byte 13 n,
      one_byte 14 n,
      div-add-mod' n (256 ^ 15),
    )

-- an address is the one that its bytes hold
pub held_again : (addr : Addr) → addr_held (family_of addr) (octets_of addr) ≡ addr
unfolding octets_of
held_again (V4 n) = ap (λ m. V4 m) (four_again n (replicate 12 0))
held_again (V6 n) = ap (λ m. V6 m) (sixteen_again n)

-- ---- what is made of an address

-- the bytes that code makes of an IPv4 address, and of an IPv6 address
pub four_octets : (n : ℕ) (bytes : List ℕ) → n < 2 ^ 32 → bytes ≡ to_be_bytes w32 n
    → get_or bytes 0 0 ∷ get_or bytes 1 0 ∷ get_or bytes 2 0 ∷ get_or bytes 3 0 ∷ replicate 12 0 ≡ octets_of (V4 n)
unfolding octets_of
four_octets n bytes small is =
    ap (λ b. get_or b 0 0 ∷ get_or b 1 0 ∷ get_or b 2 0 ∷ get_or b 3 0 ∷ replicate 12 0) is
    ∙ ap (λ b. b ++ replicate 12 0) (sym (places_are_bytes 3 n (omega (arith, small))))

pub sixteen_octets : (n : ℕ) (bytes : List ℕ) → n < 2 ^ 128 → bytes ≡ to_be_bytes w128 n → bytes ≡ octets_of (V6 n)
unfolding octets_of
sixteen_octets n bytes small is = is ∙ sym (places_are_bytes 15 n (omega (arith, small)))

-- what is held and stored where family and bytes are those of an address
pub held_is : (addr : Addr) (family : Family) (bytes : List ℕ) → family ≡ family_of addr → bytes ≡ octets_of addr
    → addr_held family bytes ≡ addr
held_is addr family bytes of_family of_bytes = (λ i. addr_held (of_family i) (of_bytes i)) ∙ held_again addr

pub stored : (addr : Addr) (len : ℕ) (family : Family) (bytes : List ℕ)
    → family ≡ family_of addr → bytes ≡ octets_of addr → IsPrefix addr len → IsStored family bytes len
stored addr len family bytes of_family of_bytes prefix =
    let held = held_is addr family bytes of_family of_bytes in
    let P : Addr → Type 0 = λ a. IsPrefix a len in
    record { held = ap octets_of held ∙ sym of_bytes; prefix = subst P (sym held) prefix }

-- ---- the order of numbers and of their bytes

-- by the high part first, then by the low one
parts_by : (d a b c e : ℕ) (high low : Ordering) → b < d → e < d
    → MatchOrdering high (a < c) (a ≡ c) (c < a) → MatchOrdering low (b < e) (b ≡ e) (e < b)
    → ordering_then high low ≡ nat_cmp (a * d + b) (c * d + e)
parts_by d a b c e Less low under over h l =
    let above = mul-le-mul_right {m = a + 1} {n = c} d (omega arith) in
    nat_cmp_is (a * d + b) (c * d + e) Less (omega arith)
parts_by d a b c e Greater low under over h l =
    let above = mul-le-mul_right {m = c + 1} {n = a} d (omega arith) in
    nat_cmp_is (a * d + b) (c * d + e) Greater (omega arith)
parts_by d a b c e Equal Less under over h l =
    let same = ap (λ x. x * d) h in nat_cmp_is (a * d + b) (c * d + e) Less (omega arith)
parts_by d a b c e Equal Equal under over h l =
    let same = ap (λ x. x * d) h in nat_cmp_is (a * d + b) (c * d + e) Equal (omega arith)
parts_by d a b c e Equal Greater under over h l =
    let same = ap (λ x. x * d) h in nat_cmp_is (a * d + b) (c * d + e) Greater (omega arith)

-- and so for numbers whose parts are known
parts : (d a b c e : ℕ) → b < d → e < d → ordering_then (nat_cmp a c) (nat_cmp b e) ≡ nat_cmp (a * d + b) (c * d + e)
parts d a b c e under over =
    let high = ranked a c (nat_cmp a c) refl in
    let low = ranked b e (nat_cmp b e) refl in
    parts_by d a b c e (nat_cmp a c) (nat_cmp b e) under over high low

-- numbers by their parts above and below 256 ^ k
parts_at : (k a c m n : ℕ) → ordering_then (nat_cmp a c) (nat_cmp (m % 256 ^ k) (n % 256 ^ k))
    ≡ nat_cmp (a * 256 ^ k + m % 256 ^ k) (c * 256 ^ k + n % 256 ^ k)
parts_at k a c m n =
    parts (256 ^ k) a (m % 256 ^ k) c (n % 256 ^ k) (mod-lt m (pow_pos256 k)) (mod-lt n (pow_pos256 k))

-- the last k bytes are compared as the numbers that they spell, whatever stands behind both
bytes_by : (k m n : ℕ) (behind : List ℕ) → slice_cmp nat_cmp behind behind ≡ Equal
    → slice_cmp nat_cmp (bytes_high_first k m ++ behind) (bytes_high_first k n ++ behind)
    ≡ nat_cmp (m % 256 ^ k) (n % 256 ^ k)
bytes_by zero m n behind same = same ∙ nat_cmp_is (m % 256 ^ 0) (n % 256 ^ 0) Equal (omega arith)
bytes_by (suc k) m n behind same =
    ap (ordering_then (nat_cmp (byte_at k m) (byte_at k n))) (bytes_by k m n behind same)
    ∙ parts_at k (byte_at k m) (byte_at k n) m n
    ∙ (λ i. nat_cmp (sym (one_byte k m) i) (sym (one_byte k n) i))

-- places are compared as their numbers are, whatever stands behind both
pub places_by : (k m n : ℕ) (behind : List ℕ) → slice_cmp nat_cmp behind behind ≡ Equal
    → slice_cmp nat_cmp (places k m ++ behind) (places k n ++ behind) ≡ nat_cmp m n
places_by k m n behind same =
    ap (ordering_then (nat_cmp (m / 256 ^ k) (n / 256 ^ k))) (bytes_by k m n behind same)
    ∙ parts_at k (m / 256 ^ k) (n / 256 ^ k) m n
    ∙ (λ i. nat_cmp (div-add-mod' m (256 ^ k) i) (div-add-mod' n (256 ^ k) i))
