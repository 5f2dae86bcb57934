-- Prefixes and keys that are written are read again.
use Rattle.std.proofs.Common.{ℕ, ◌≡◌, ◌+◌, ◌-◌, ◌*◌, ◌%◌, ◌^◌, ◌<◌, ◌≤◌, Bool, true, false, List, [], take, arith}
use Rattle.std.proofs.Common.{length-take, ap, sym, ◌∙◌, refl, inl, inr, zero, suc, ◌⊎◌, if◌then◌else◌}
use Rattle.std.proofs.Math.Pow.{mod-mod-pow}
use Rattle.std.proofs.Math.Nat.{div-mul_cancel, zero-mod}
use Rattle.std.proofs.lemmas.Nat.Gcd.{dvd_of_mod-eq-zero}
use Rattle.std.specs.List.{AllByRecursion}
use Rattle.std.specs.Int.{w32, w128, to_be_bytes, from_be_bytes}
use Rattle.route_values.specs.declared.addr.Addr.{Addr}
use Rattle.route_values.specs.declared.addr.Addr.TheVariants.{V4, V6}
use Rattle.route_values.specs.declared.addr.Family.{Family}
use Rattle.route_values.specs.declared.addr.Family.TheVariants.{Ipv4, Ipv6}
use Rattle.route_values.specs.Caps.{Caps}
use Rattle.route_values.specs.declared.key.Key.{Key}
use Rattle.route_values.specs.Addr.{family_of}
use Rattle.route_values.specs.Prefix.{IsPrefix}
use Rattle.route_values.specs.Visible.{has_path}
use Rattle.update_grammar.specs.Pieces.{SpellsEach}
use Rattle.update_grammar.specs.Prefixes.{bytes_for, block_text, key_text, keys_text, first_bits, SpellsId, SpellsBlock}
use Rattle.update_grammar.specs.Prefixes.{SpellsKey}
use Rattle.update_grammar.specs.Written.{IsCarried}
use Rattle.update_grammar.proofs.PiecesLemmas.{pieces_spelled}

-- a number that ends in so many zero bits ends in fewer
less_zeros : (n a b : ℕ) → b ≤ a → n % 2 ^ a ≡ 0 → n % 2 ^ b ≡ 0
less_zeros n a b le zeros =
    let parts : a - b + b ≡ a = omega arith in
    sym (mod-mod-pow n (a - b) b) ∙ ap (λ k. n % 2 ^ k % 2 ^ b) parts ∙ ap (λ k. k % 2 ^ b) zeros ∙ zero-mod (2 ^ b)

-- the first bytes of an IPv4 address whose others are zero
first_of_four : (n k : ℕ) → n < 2 ^ 32 → k ≤ 4 → n % 2 ^ (8 * (4 - k)) ≡ 0
    → from_be_bytes w32 (take k (to_be_bytes w32 n)) ≡ n
first_of_four n zero fits le zeros = omega arith
first_of_four n (suc zero) fits le zeros = omega arith
first_of_four n (suc (suc zero)) fits le zeros = omega arith
first_of_four n (suc (suc (suc zero))) fits le zeros = omega arith
first_of_four n (suc (suc (suc (suc zero)))) fits le zeros = omega arith
first_of_four n (suc (suc (suc (suc (suc k))))) fits le zeros = absurd (omega arith)

-- an IPv4 address that ends in zeros is told by the bytes that hold its first bits
four_back : (n bits : ℕ) → n < 2 ^ 32 → bits ≤ 32 → n % 2 ^ (32 - bits) ≡ 0
    → from_be_bytes w32 (take (bytes_for bits) (to_be_bytes w32 n)) ≡ n
four_back n bits fits short zeros =
    first_of_four n (bytes_for bits) fits (omega arith) (less_zeros n (32 - bits) (8 * (4 - bytes_for bits))
    (omega arith) zeros)

-- the first bytes of an IPv6 address whose others are zero
first_of_sixteen : (n k : ℕ) → n < 2 ^ 128 → k ≤ 16 → n % 2 ^ (8 * (16 - k)) ≡ 0
    → from_be_bytes w128 (take k (to_be_bytes w128 n)) ≡ n
first_of_sixteen n zero fits le zeros = omega arith
first_of_sixteen n (suc zero) fits le zeros = omega arith
first_of_sixteen n (suc (suc zero)) fits le zeros = omega arith
first_of_sixteen n (suc (suc (suc zero))) fits le zeros = omega arith
first_of_sixteen n (suc (suc (suc (suc zero)))) fits le zeros = omega arith
first_of_sixteen n (suc (suc (suc (suc (suc zero))))) fits le zeros = omega arith
first_of_sixteen n (suc (suc (suc (suc (suc (suc zero)))))) fits le zeros = omega arith
first_of_sixteen n (suc (suc (suc (suc (suc (suc (suc zero))))))) fits le zeros = omega arith
first_of_sixteen n (suc (suc (suc (suc (suc (suc (suc (suc zero)))))))) fits le zeros = omega arith
first_of_sixteen n (suc (suc (suc (suc (suc (suc (suc (suc (suc zero))))))))) fits le zeros = omega arith
first_of_sixteen n (suc (suc (suc (suc (suc (suc (suc (suc (suc (suc zero)))))))))) fits le zeros = omega arith
first_of_sixteen n (suc (suc (suc (suc (suc (suc (suc (suc (suc (suc (suc zero))))))))))) fits le zeros = omega arith
first_of_sixteen n (suc (suc (suc (suc (suc (suc (suc (suc (suc (suc (suc (suc zero)))))))))))) fits le zeros =
    omega arith
first_of_sixteen n (suc (suc (suc (suc (suc (suc (suc (suc (suc (suc (suc (suc (suc zero))))))))))))) fits le zeros =
    omega arith
first_of_sixteen n (suc (suc (suc (suc (suc (suc (suc (suc (suc (suc (suc (suc (suc (suc zero)))))))))))))) fits le
    zeros = omega arith
first_of_sixteen n (suc (suc (suc (suc (suc (suc (suc (suc (suc (suc (suc (suc (suc (suc (suc zero))))))))))))))) fits
    le zeros = omega arith
first_of_sixteen n (suc (suc (suc (suc (suc (suc (suc (suc (suc (suc (suc (suc (suc (suc (suc (suc zero))))))))))))))))
    fits le zeros = omega arith
first_of_sixteen n (suc (suc (suc (suc (suc (suc (suc (suc (suc
    (suc (suc (suc (suc (suc (suc (suc (suc k))))))))))))))))) fits le zeros = absurd (omega arith)

-- an IPv6 address that ends in zeros is told by the bytes that hold its first bits
sixteen_back : (n bits : ℕ) → n < 2 ^ 128 → bits ≤ 128 → n % 2 ^ (128 - bits) ≡ 0
    → from_be_bytes w128 (take (bytes_for bits) (to_be_bytes w128 n)) ≡ n
sixteen_back n bits fits short zeros =
    first_of_sixteen n (bytes_for bits) fits (omega arith) (less_zeros n (128 - bits) (8 * (16 - bytes_for bits))
    (omega arith) zeros)

-- the first bits of a number whose others are zero
first_bits_kept : (width n bits : ℕ) → n % 2 ^ (width - bits) ≡ 0 → first_bits width bits n ≡ n
first_bits_kept width n bits zeros = div-mul_cancel (2 ^ (width - bits)) (dvd_of_mod-eq-zero (2 ^ (width - bits)) zeros)

-- an IPv4 prefix is spelled by its text
block_of_four : (n len : ℕ) → IsPrefix (V4 n) len → SpellsBlock Ipv4 (block_text (record { addr = V4 n; len = len }))
    (record { addr = V4 n; len = len })
block_of_four n len canonical =
    let field : List ℕ = take (bytes_for len) (to_be_bytes w32 n) in
    let is : from_be_bytes w32 field ≡ n = four_back n len canonical.fits canonical.short canonical.zeros in (
      field,
      refl,
      canonical.short,
      length-take (bytes_for len) (to_be_bytes w32 n) ∙ omega (arith, canonical.short),
      ap (λ m. V4 m) (sym (ap (first_bits 32 len) is ∙ first_bits_kept 32 n len canonical.zeros)),
    )

-- an IPv6 prefix is spelled by its text
block_of_sixteen : (n len : ℕ) → IsPrefix (V6 n) len → SpellsBlock Ipv6 (block_text (record { addr = V6 n; len = len }))
    (record { addr = V6 n; len = len })
block_of_sixteen n len canonical =
    let field : List ℕ = take (bytes_for len) (to_be_bytes w128 n) in
    let is : from_be_bytes w128 field ≡ n = sixteen_back n len canonical.fits canonical.short canonical.zeros in (
      field,
      refl,
      canonical.short,
      length-take (bytes_for len) (to_be_bytes w128 n) ∙ omega (arith, canonical.short),
      ap (λ m. V6 m) (sym (ap (first_bits 128 len) is ∙ first_bits_kept 128 n len canonical.zeros)),
    )

-- a prefix is spelled by its text
block_spelled : (family : Family) (addr : Addr) (len : ℕ) → family_of addr ≡ family → IsPrefix addr len
    → SpellsBlock family (block_text (record { addr = addr; len = len })) (record { addr = addr; len = len })
block_spelled Ipv4 (V4 n) len is canonical = block_of_four n len canonical
block_spelled Ipv4 (V6 n) len is canonical = cc
block_spelled Ipv6 (V4 n) len is canonical = cc
block_spelled Ipv6 (V6 n) len is canonical = block_of_sixteen n len canonical

-- an identifier is spelled by its text, where no path flag means the identifier 0
id_spelled : (path : Bool) (id : ℕ) → id < 2 ^ 32 → (path ≡ false → id ≡ 0)
    → SpellsId path (if path then to_be_bytes w32 id else []) id
id_spelled true id fits none = (refl, fits)
id_spelled false id fits none = (refl, none refl)

-- an identifier that is 0 or goes with a path flag is 0 without the flag
id_none : (path : Bool) (id : ℕ) → (id ≡ 0) ⊎ (path ≡ true) → path ≡ false → id ≡ 0
id_none path id (inl none) off = none
id_none path id (inr on) off = cc

-- a key that the session carries has the identifier 0 where the family has no path identifiers
key_of_family : (caps : Caps) (family : Family) (key : Key) (of : Family) → of ≡ family
    → (key.id ≡ 0) ⊎ (has_path caps of ≡ true) → has_path caps family ≡ false → key.id ≡ 0
key_of_family caps family key of is known off = id_none (has_path caps of) key.id known (ap (has_path caps) is ∙ off)

-- a key that the session carries is spelled by its text
pub key_spelled : (caps : Caps) (family : Family) (key : Key) → IsCarried caps family key
    → SpellsKey (has_path caps family) family (key_text (has_path caps family) key) key
key_spelled caps family key carried = (
  (if has_path caps family then to_be_bytes w32 key.id else []),
  block_text key.prefix,
  refl,
  id_spelled (has_path caps family) key.id carried.id (key_of_family caps family key (family_of key.prefix.addr)
      carried.of_family carried.visible.1),
  block_spelled family key.prefix.addr key.prefix.len carried.of_family carried.prefix,
)

-- the keys of a message are spelled by their texts end to end
pub keys_spelled : (caps : Caps) (family : Family) (keys : List Key) → AllByRecursion (IsCarried caps family) keys
    → SpellsEach (SpellsKey (has_path caps family) family) (keys_text (has_path caps family) keys) keys
keys_spelled caps family keys carried = pieces_spelled (SpellsKey (has_path caps family) family) (IsCarried caps family)
    (key_text (has_path caps family)) (key_spelled caps family) keys carried
