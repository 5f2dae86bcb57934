-- Words that spell numbers and addresses of items.
use Rattle.std.specs.Prelude.{ℕ, ◌≡◌, ◌⊎◌, ◌<◌, ◌^◌, codes, decimal, List, Option, Some, None}
use Rattle.route_values.specs.declared.addr.Addr.{Addr}
use Rattle.route_values.specs.declared.addr.Family.{Family}
use Rattle.route_values.specs.declared.attrs.Hop.{Hop}
use Rattle.route_values.specs.declared.attrs.Hop.TheVariants.{Own, Is}
use Rattle.route_values.specs.declared.attrs.Origin.{Origin}
use Rattle.route_values.specs.declared.attrs.Origin.TheVariants.{Igp, Egp, Incomplete}
use Rattle.route_values.specs.Addr.{family_of}
use Rattle.text_forms.specs.Addresses.{IsIpv4}
use Rattle.text_forms.specs.Families.{IsAddrText}

-- a number of 32 bits in decimal digits
abbrev pub IsNumber : List ℕ → ℕ → Type 0
IsNumber word number = (number < 2 ^ 32) × (word ≡ decimal number)

-- a path identifier is a number or an IPv4 address
abbrev pub IsPathId : List ℕ → ℕ → Type 0
IsPathId word id = IsNumber word id ⊎ IsIpv4 word id

-- an address of the family, where one is wanted
abbrev pub IsOfFamily : Option Family → Addr → Type 0
IsOfFamily None addr = Unit {0}
IsOfFamily (Some family) addr = family_of addr ≡ family

-- a next hop is the word `self` or an address
abbrev pub IsHop : Option Family → List ℕ → Hop → Type 0
IsHop family word Own = word ≡ codes "self"
IsHop family word (Is addr) = IsAddrText word addr × IsOfFamily family addr

-- an origin in lower or in upper case
abbrev pub IsOrigin : List ℕ → Origin → Type 0
IsOrigin word Igp = (word ≡ codes "igp") ⊎ (word ≡ codes "IGP")
IsOrigin word Egp = (word ≡ codes "egp") ⊎ (word ≡ codes "EGP")
IsOrigin word Incomplete = (word ≡ codes "incomplete") ⊎ (word ≡ codes "INCOMPLETE")
