-- Keys: their family, and tests of equality that compute.
use Rattle.std.specs.Prelude.{◌==◌, ◌&&◌, Bool, false}
use Rattle.route_values.specs.declared.addr.Addr.{Addr}
use Rattle.route_values.specs.declared.addr.Addr.TheVariants.{V4, V6}
use Rattle.route_values.specs.declared.addr.Family.{Family}
use Rattle.route_values.specs.declared.key.Key.{Key}
use Rattle.route_values.specs.Addr.{family_of}
use Rattle.route_values.specs.Prefix.{Block}

-- the family of a key's prefix
abbrev pub family_of_key : Key → Family
family_of_key key = family_of key.prefix.addr

-- whether two addresses are the same
abbrev pub same_addr : Addr → Addr → Bool
same_addr (V4 m) (V4 n) = m == n
same_addr (V4 m) (V6 n) = false
same_addr (V6 m) (V4 n) = false
same_addr (V6 m) (V6 n) = m == n

-- whether two prefixes are the same
abbrev pub same_block : Block → Block → Bool
same_block a b = same_addr a.addr b.addr && a.len == b.len

-- whether two keys are the same
abbrev pub same_key : Key → Key → Bool
same_key a b = same_block a.prefix b.prefix && a.id == b.id
