-- Addresses and prefixes of either family as texts.
use Rattle.std.specs.Prelude.{ℕ, ◌≡◌, ◌⊎◌, decimal, List, ◌∷◌, ◌++◌}
use Rattle.route_values.specs.declared.addr.Addr.{Addr}
use Rattle.route_values.specs.declared.addr.Addr.TheVariants.{V4, V6}
use Rattle.route_values.specs.Addr.{width_of}
use Rattle.route_values.specs.Prefix.{Block, IsPrefix}
use Rattle.text_forms.specs.Addresses.{IsIpv4}
use Rattle.text_forms.specs.Ipv6.{IsIpv6}

-- an address as its family spells it
abbrev pub IsAddrText : List ℕ → Addr → Type 0
IsAddrText text (V4 number) = IsIpv4 text number
IsAddrText text (V6 number) = IsIpv6 text number

-- an address, `/` and a number of bits
pub record IsMaskedAddr (text : List ℕ) (addr : Addr) (bits : ℕ) : Type 0 where
  pub front : List ℕ
  pub front_is : IsAddrText front addr
  pub text_is : text ≡ front ++ 47 ∷ decimal bits

-- an address alone, for all its bits
pub record IsWholeAddr (text : List ℕ) (addr : Addr) (bits : ℕ) : Type 0 where
  pub text_is : IsAddrText text addr
  pub all : bits ≡ width_of addr

-- a prefix with its number of bits, or an address alone; no bit is set past the length
pub record IsBlockText (text : List ℕ) (block : Block) : Type 0 where
  pub canonical : IsPrefix block.addr block.len
  pub spelled : IsMaskedAddr text block.addr block.len ⊎ IsWholeAddr text block.addr block.len
