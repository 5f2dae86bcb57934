-- Words that spell communities (RFC 1997), extended communities (RFC 4360), large communities (RFC 8092) and
-- aggregators.
use Rattle.std.specs.Prelude.{ℕ, ◌≡◌, ◌⊎◌, ◌+◌, ◌*◌, ◌<◌, ◌≤◌, ◌^◌, codes, decimal, List, ◌∷◌, ◌++◌, length}
use Rattle.std.specs.Int.{w16, w32, w64, to_be_bytes}
use Rattle.std.specs.Str.Parse.{AllDigits, digits_value}
use Rattle.route_values.specs.declared.attrs.Aggregator.{Aggregator}
use Rattle.route_values.specs.declared.attrs.Large.{Large}
use Rattle.text_forms.specs.Addresses.{IsIpv4}
use Rattle.text_forms.specs.Numbers.{IsAsn}

-- two numbers of 16 bits joined by `:`
pub record IsJoined (word : List ℕ) (number : ℕ) : Type 0 where
  pub high : ℕ
  pub low : ℕ
  pub high_small : high < 65536
  pub low_small : low < 65536
  pub word_is : word ≡ decimal high ++ 58 ∷ decimal low
  pub value : number ≡ high * 65536 + low

-- the communities that have a name (RFC 1997, "Well-known Communities"; RFC 7999, section 5)
abbrev pub IsNamed : List ℕ → ℕ → Type 0
IsNamed word number =
    ((word ≡ codes "no-export") × (number ≡ 4294967041)) ⊎ ((word ≡ codes "no-advertise") × (number ≡ 4294967042))
    ⊎ ((word ≡ codes "no-export-subconfed") × (number ≡ 4294967043))
    ⊎ ((word ≡ codes "blackhole") × (number ≡ 4294902426))

-- a community is two numbers or a name
abbrev pub IsCommunity : List ℕ → ℕ → Type 0
IsCommunity word number = IsJoined word number ⊎ IsNamed word number

-- a large community is three numbers joined by `:`
pub record IsLarge (word : List ℕ) (large : Large) : Type 0 where
  pub global_small : large.global < 2 ^ 32
  pub first_small : large.first < 2 ^ 32
  pub second_small : large.second < 2 ^ 32
  pub word_is : word ≡ decimal large.global ++ 58 ∷ (decimal large.first ++ 58 ∷ decimal large.second)

-- an aggregator is an AS number and an IPv4 address joined by `:`
pub record IsAggregator (word : List ℕ) (aggregator : Aggregator) : Type 0 where
  pub asn : List ℕ
  pub addr : List ℕ
  pub asn_is : IsAsn asn aggregator.asn
  pub addr_is : IsIpv4 addr aggregator.addr
  pub word_is : word ≡ asn ++ 58 ∷ addr

-- an extended community in hexadecimal digits of either case behind `0x`: its eight bytes, the highest first
pub record IsHexadecimal (word bytes : List ℕ) : Type 0 where
  pub digits : List ℕ
  pub sixteen : length digits ≡ 16
  pub are_digits : AllDigits 16 digits
  pub word_is : word ≡ codes "0x" ++ digits
  pub value : bytes ≡ to_be_bytes w64 (digits_value 16 digits)

-- the name that an extended community begins with, and its second byte (RFC 4360, sections 4 and 5)
abbrev pub IsSort : List ℕ → ℕ → Type 0
IsSort name sort = ((name ≡ codes "target") × (sort ≡ 2)) ⊎ ((name ≡ codes "origin") × (sort ≡ 3))

-- its two parts: an IPv4 address, an AS number of 16 bits or a greater one, and a number that fills the eight bytes
-- (RFC 4360, sections 3.1 and 3.2; RFC 5668, section 2)
abbrev pub IsParts : List ℕ → ℕ → ℕ → List ℕ → Type 0
IsParts text sort low bytes =
    ((number : ℕ) × IsIpv4 text number × (low < 65536)
    × (bytes ≡ 1 ∷ sort ∷ (to_be_bytes w32 number ++ to_be_bytes w16 low)))
    ⊎ ((number : ℕ) × (number < 65536) × (text ≡ decimal number) × (low < 2 ^ 32)
    × (bytes ≡ 0 ∷ sort ∷ (to_be_bytes w16 number ++ to_be_bytes w32 low)))
    ⊎ ((number : ℕ) × (65536 ≤ number) × (number < 2 ^ 32) × (text ≡ decimal number) × (low < 65536)
    × (bytes ≡ 2 ∷ sort ∷ (to_be_bytes w32 number ++ to_be_bytes w16 low)))

-- a name and two parts joined by `:`
pub record IsSorted (word bytes : List ℕ) : Type 0 where
  pub name : List ℕ
  pub sort : ℕ
  pub text : List ℕ
  pub low : ℕ
  pub sort_is : IsSort name sort
  pub parts : IsParts text sort low bytes
  pub word_is : word ≡ name ++ 58 ∷ (text ++ 58 ∷ decimal low)

-- an extended community is written in digits, or by its name and parts
abbrev pub IsExtended : List ℕ → List ℕ → Type 0
IsExtended word bytes = IsHexadecimal word bytes ⊎ IsSorted word bytes
