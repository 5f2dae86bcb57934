-- IPv4 addresses and prefixes as texts.
use Rattle.std.specs.Prelude.{ℕ, ◌≡◌, ◌⊎◌, ◌<◌, decimal, List, [], ◌∷◌, ◌++◌}
use Rattle.std.specs.Int.{w32, from_be_bytes}
use Rattle.route_values.specs.declared.addr.Addr.TheVariants.{V4}
use Rattle.route_values.specs.Prefix.{Block, IsPrefix}

-- four numbers up to 255 joined by dots, the bytes of the address in their order
pub record IsIpv4 (text : List ℕ) (number : ℕ) : Type 0 where
  pub first : ℕ
  pub second : ℕ
  pub third : ℕ
  pub fourth : ℕ
  pub first_small : first < 256
  pub second_small : second < 256
  pub third_small : third < 256
  pub fourth_small : fourth < 256
  pub text_is : text ≡ decimal first ++ 46 ∷ (decimal second ++ 46 ∷ (decimal third ++ 46 ∷ decimal fourth))
  pub value : number ≡ from_be_bytes w32 (first ∷ second ∷ third ∷ fourth ∷ [])

-- an address, `/` and a number of bits
abbrev pub IsMaskedText : List ℕ → ℕ → ℕ → Type 0
IsMaskedText text number bits = (addr : List ℕ) × IsIpv4 addr number × (text ≡ addr ++ 47 ∷ decimal bits)

-- a prefix with its number of bits, or an address alone for all 32
abbrev pub IsPrefixText : List ℕ → Block → Type 0
IsPrefixText text block =
    (number : ℕ) × (block.addr ≡ V4 number) × IsPrefix block.addr block.len ×
    (IsMaskedText text number block.len ⊎ (IsIpv4 text number × (block.len ≡ 32)))
