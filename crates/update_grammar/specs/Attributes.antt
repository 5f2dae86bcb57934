-- A path attribute as bytes (RFC 4271, section 4.3): flags, code, length, value.
use Rattle.std.specs.Prelude.{ℕ, ◌≡◌, ◌≢◌, ◌⊎◌, ◌/◌, ◌%◌, ◌^◌, ◌<◌, ◌≤◌, ◌==◌, Bool, List, [], ◌∷◌, ◌++◌, length}
use Rattle.std.specs.Prelude.{if◌then◌else◌}
use Rattle.std.specs.List.{AllByRecursion}
use Rattle.std.specs.Int.{w16, to_be_bytes}
use Rattle.update_grammar.specs.Codes.{code_origin, code_clusters, code_reach, code_extended, code_large}

-- an attribute whose value isn't looked at yet
pub record Raw : Type 0 where
  pub flags : ℕ
  pub code : ℕ
  pub value : List ℕ

-- the flag bits: optional is 80, transitive 40 and extended length 10, in hexadecimal
abbrev pub transitive : ℕ
transitive = 64

abbrev pub optional : ℕ
optional = 128

abbrev pub optional_transitive : ℕ
optional_transitive = 192

abbrev pub extended_length : ℕ
extended_length = 16

-- whether the length has two bytes
abbrev pub is_extended : ℕ → Bool
is_extended flags = flags / extended_length % 2 == 1

-- what stands before the value
abbrev pub raw_head : ℕ → ℕ → ℕ → List ℕ
raw_head flags code len = flags ∷ code ∷ (if is_extended flags then to_be_bytes w16 len else len ∷ [])

abbrev pub raw_text : Raw → List ℕ
raw_text a = raw_head a.flags a.code (length a.value) ++ a.value

-- an attribute that has a text: flags and code of one byte, and a value that its length can count
pub record IsRaw (a : Raw) : Type 0 where
  pub flags : a.flags < 256
  pub code : a.code < 256
  pub length_fits : length a.value < (if is_extended a.flags then 2 ^ 16 else 256)

-- the two upper bits of the flags: optional and transitive
abbrev pub kind : ℕ → ℕ
kind flags = flags / transitive

-- an attribute of this code, with the optional and transitive bits of these flags; its other bits aren't looked at
pub record IsOf (a : Raw) (the_flags the_code : ℕ) : Type 0 where
  pub flags : kind a.flags ≡ kind the_flags
  pub code : a.code ≡ the_code

-- the codes that are known: 1 to 10, 14 to 16, and 32
abbrev pub IsKnown : ℕ → Type 0
IsKnown code =
    ((code_origin ≤ code) × (code ≤ code_clusters)) ⊎ ((code_reach ≤ code) × (code ≤ code_extended))
    ⊎ (code ≡ code_large)

-- an unknown attribute that is optional is passed over
abbrev pub IsPassedOver : Raw → Type 0
IsPassedOver a = (optional ≤ a.flags) × (¬ (IsKnown a.code))

-- each code stands at most once, also one that is passed over
abbrev pub AreApart : List Raw → Type 0
AreApart [] = Unit {0}
AreApart (a ∷ others) = AllByRecursion (λ b. a.code ≢ b.code) others × AreApart others
