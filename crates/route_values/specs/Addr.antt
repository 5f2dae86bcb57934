-- What an address is: its family, its number and how many bits it has.
use Rattle.std.specs.Prelude.{ℕ}
use Rattle.route_values.specs.declared.addr.Addr.{Addr}
use Rattle.route_values.specs.declared.addr.Addr.TheVariants.{V4, V6}
use Rattle.route_values.specs.declared.addr.Family.{Family}
use Rattle.route_values.specs.declared.addr.Family.TheVariants.{Ipv4, Ipv6}

-- the family that an address belongs to
abbrev pub family_of : Addr → Family
family_of (V4 n) = Ipv4
family_of (V6 n) = Ipv6

-- the number that an address's bytes spell
abbrev pub number_of : Addr → ℕ
number_of (V4 n) = n
number_of (V6 n) = n

-- how many bits the addresses of a family have
abbrev pub bits_of : Family → ℕ
bits_of Ipv4 = 32
bits_of Ipv6 = 128

-- how many bits an address has
abbrev pub width_of : Addr → ℕ
width_of addr = bits_of (family_of addr)
