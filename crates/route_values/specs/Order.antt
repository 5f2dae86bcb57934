-- The order of addresses, prefixes and keys.
use Rattle.std.specs.Ordering.{nat_cmp, ordering_then}
use Rattle.std.specs.declared.cmp.Ordering.{Ordering}
use Rattle.std.specs.declared.cmp.Ordering.TheVariants.{Less, Greater}
use Rattle.route_values.specs.declared.addr.Addr.{Addr}
use Rattle.route_values.specs.declared.addr.Addr.TheVariants.{V4, V6}
use Rattle.route_values.specs.declared.key.Key.{Key}
use Rattle.route_values.specs.Prefix.{Block}

-- IPv4 before IPv6, and in one family by the number
abbrev pub addr_cmp : Addr → Addr → Ordering
addr_cmp (V4 m) (V4 n) = nat_cmp m n
addr_cmp (V4 m) (V6 n) = Less
addr_cmp (V6 m) (V4 n) = Greater
addr_cmp (V6 m) (V6 n) = nat_cmp m n

-- by address, then by length
abbrev pub block_cmp : Block → Block → Ordering
block_cmp a b = ordering_then (addr_cmp a.addr b.addr) (nat_cmp a.len b.len)

-- by prefix, then by identifier
abbrev pub key_cmp : Key → Key → Ordering
key_cmp a b = ordering_then (block_cmp a.prefix b.prefix) (nat_cmp a.id b.id)
