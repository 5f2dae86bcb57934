-- The sixteen bytes that hold an address of either family, in network order.
use Rattle.std.specs.Prelude.{ℕ, ◌≡◌, ◌/◌, ◌^◌, List, ◌∷◌, ◌++◌, replicate, refl}
use Rattle.std.specs.Int.{w32, w128, from_be_bytes, bytes_high_first}
use Rattle.route_values.specs.declared.addr.Addr.{Addr}
use Rattle.route_values.specs.declared.addr.Addr.TheVariants.{V4, V6}
use Rattle.route_values.specs.declared.addr.Family.{Family}
use Rattle.route_values.specs.declared.addr.Family.TheVariants.{Ipv4, Ipv6}
use Rattle.route_values.specs.Addr.{family_of}

-- the address that bytes hold: an IPv4 address stands in the first four
abbrev pub addr_held : Family → List ℕ → Addr
addr_held Ipv4 bytes = V4 (from_be_bytes w32 bytes)
addr_held Ipv6 bytes = V6 (from_be_bytes w128 bytes)

-- the last k bytes of a number, behind one place that has all the rest: so places are compared as numbers of any size
abbrev pub places : ℕ → ℕ → List ℕ
places k n = n / 256 ^ k ∷ bytes_high_first k n

-- the bytes that hold an address: behind an IPv4 address stand zeros
unfoldable pub octets_of : Addr → List ℕ
octets_of (V4 n) = places 3 n ++ replicate 12 0
octets_of (V6 n) = places 15 n

-- the family is that of the address held
pub family_held : (family : Family) (bytes : List ℕ) → family_of (addr_held family bytes) ≡ family
family_held Ipv4 bytes = refl
family_held Ipv6 bytes = refl
