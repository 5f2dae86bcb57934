-- An address with its first `len` bits, the others zero (RFC 4271, section 4.3).
use Rattle.std.specs.Prelude.{List, ℕ, ◌≡◌, ◌<◌, ◌≤◌, ◌-◌, ◌%◌, ◌^◌}
use Rattle.route_values.specs.declared.addr.Addr.{Addr}
use Rattle.route_values.specs.declared.addr.Family.{Family}
use Rattle.route_values.specs.Addr.{number_of, width_of}
use Rattle.route_values.specs.Octets.{addr_held, octets_of}

-- what a contract sees of a prefix
pub record Block : Type 0 where
  pub addr : Addr
  pub len : ℕ

-- the address fits its family, the length too, and the bits past the length are zero
pub record IsPrefix (addr : Addr) (len : ℕ) : Type 0 where
  pub fits : number_of addr < 2 ^ width_of addr
  pub short : len ≤ width_of addr
  pub zeros : number_of addr % 2 ^ (width_of addr - len) ≡ 0

-- what is stored of a prefix: the bytes are those of the address that they hold, and it is a prefix's
pub record IsStored (family : Family) (bytes : List ℕ) (len : ℕ) : Type 0 where
  pub held : octets_of (addr_held family bytes) ≡ bytes
  pub prefix : IsPrefix (addr_held family bytes) len
