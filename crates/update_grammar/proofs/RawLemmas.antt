-- Attributes as they are written: their flags, their lengths, and their codes, which rise.
use Rattle.std.proofs.Common.{ℕ, ◌≡◌, ◌≢◌, ◌+◌, ◌/◌, ◌%◌, ◌^◌, ◌<◌, ◌≤◌, Bool, true, false, List, [], ◌∷◌, ◌++◌, length}
use Rattle.std.proofs.Common.{arith, length-append, sym, refl, subst, nat_lt, if◌then◌else◌}
use Rattle.std.proofs.lemmas.Bool.{ltb-false, eq-eqb}
use Rattle.std.specs.List.{flat_map, AllByRecursion}
use Rattle.update_grammar.specs.Attributes.{Raw, raw_head, raw_text, is_extended, extended_length, kind, transitive}
use Rattle.update_grammar.specs.Attributes.{optional, optional_transitive, IsRaw, IsOf, AreApart}
use Rattle.update_grammar.specs.Written.{raw}
use Rattle.update_grammar.proofs.PiecesLemmas.{all_append, all_map}

-- flags that have the optional and transitive bits alone
pub record IsPlain (flags : ℕ) : Type 0 where
  pub small : flags ≤ 192
  pub plain : flags % 64 ≡ 0

-- the flags that are used are plain
pub plain_transitive : IsPlain transitive
plain_transitive = record { small = omega arith; plain = refl }

pub plain_optional : IsPlain optional
plain_optional = record { small = omega arith; plain = refl }

pub plain_both : IsPlain optional_transitive
plain_both = record { small = omega arith; plain = refl }

-- the extended length bit says how many bytes the length has
length_flagged : (flags : ℕ) → IsPlain flags → (long : Bool) (n : ℕ) → n < 2 ^ 16 → (long ≡ false → n < 256)
    → n < (if is_extended (if long then flags + extended_length else flags) then 2 ^ 16 else 256)
length_flagged flags plain true n fits short =
    let extended : is_extended (flags + extended_length) ≡ true = eq-eqb ((flags + 16) / 16 % 2) 1 (omega arith) in
    subst (λ b. n < (if b then 2 ^ 16 else 256)) (sym extended) fits
length_flagged flags plain false n fits short = elim (is_extended flags) as (λ b. n < (if b then 2 ^ 16 else 256))
    [ true ↦ fits | false ↦ short refl ]

-- the flags fit a byte
flags_small : (flags : ℕ) → IsPlain flags → (long : Bool) → (if long then flags + extended_length else flags) < 256
flags_small flags plain true = omega arith
flags_small flags plain false = omega arith

-- the extended length bit leaves the optional and transitive bits
kind_kept : (flags : ℕ) → IsPlain flags → (long : Bool) → kind (if long then flags + extended_length else flags)
    ≡ kind flags
kind_kept flags plain true = omega arith
kind_kept flags plain false = refl

-- an attribute with a value below 65,536 bytes has a text
pub raw_fits : (flags code : ℕ) (value : List ℕ) → IsPlain flags → code < 256 → length value < 2 ^ 16
    → IsRaw (raw flags code value)
raw_fits flags code value plain small short = record {
  flags = flags_small flags plain (nat_lt 255 (length value));
  code = small;
  length_fits = length_flagged flags plain (nat_lt 255 (length value)) (length value) short
      (λ is_short. omega (arith, ltb-false 255 (length value) is_short));
}

-- an attribute has the kind and the code that it is written with
pub raw_is_of : (flags code : ℕ) (value : List ℕ) → IsPlain flags → IsOf (raw flags code value) flags code
raw_is_of flags code value plain = record { flags = kind_kept flags plain (nat_lt 255 (length value)); code = refl }

-- a value is no longer than the text of the attributes that it is in
pub values_short : (raws : List Raw) (limit : ℕ) → length (flat_map raw_text raws) < limit
    → AllByRecursion (λ a. length a.value < limit) raws
values_short [] limit short = tt
values_short (a ∷ others) limit short =
    let whole : length (flat_map raw_text (a ∷ others)) ≡ length (raw_text a) + length (flat_map raw_text others) =
    length-append (raw_text a) (flat_map raw_text others) in
    let first : length (raw_text a) ≡ length (raw_head a.flags a.code (length a.value)) + length a.value =
    length-append (raw_head a.flags a.code (length a.value)) a.value in
    (omega arith, values_short others limit (omega arith))

-- attributes of one code before others of higher codes
pub apart_append : (xs ys : List Raw) (code : ℕ) → AreApart xs → AllByRecursion (λ a. a.code ≡ code) xs → AreApart ys
    → AllByRecursion (λ b. code < b.code) ys → AreApart (xs ++ ys)
apart_append [] ys code fronts coded rests above = rests
apart_append (x ∷ xs) ys code fronts coded rests above = (
  all_append (λ b. x.code ≢ b.code) xs ys fronts.0 (all_map (λ b. code < b.code) (λ b. x.code ≢ b.code)
      (λ b higher same. absurd (omega (arith, same, coded.0))) ys above),
  apart_append xs ys code fronts.1 coded.1 rests above,
)
