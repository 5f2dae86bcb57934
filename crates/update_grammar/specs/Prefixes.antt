-- Prefixes on the wire (RFC 4271, section 4.3; RFC 7911, section 3): a bit count, and the fewest bytes that hold so
-- many bits. Where a session has path identifiers for the family, four bytes of identifier stand before it.
use Rattle.std.specs.Prelude.{ℕ, ◌≡◌, ◌+◌, ◌-◌, ◌*◌, ◌/◌, ◌^◌, ◌<◌, ◌≤◌, Bool, true, false, List, [], ◌∷◌, ◌++◌, length}
use Rattle.std.specs.Prelude.{take, if◌then◌else◌}
use Rattle.std.specs.List.{flat_map}
use Rattle.std.specs.Int.{w32, w128, to_be_bytes, from_be_bytes}
use Rattle.route_values.specs.declared.addr.Addr.{Addr}
use Rattle.route_values.specs.declared.addr.Addr.TheVariants.{V4, V6}
use Rattle.route_values.specs.declared.addr.Family.{Family}
use Rattle.route_values.specs.declared.addr.Family.TheVariants.{Ipv4, Ipv6}
use Rattle.route_values.specs.declared.key.Key.{Key}
use Rattle.route_values.specs.Addr.{bits_of}
use Rattle.route_values.specs.Prefix.{Block}

-- the fewest bytes that hold so many bits
abbrev pub bytes_for : ℕ → ℕ
bytes_for bits = (bits + 7) / 8

-- an address's bytes in network order
abbrev pub addr_bytes : Addr → List ℕ
addr_bytes (V4 n) = to_be_bytes w32 n
addr_bytes (V6 n) = to_be_bytes w128 n

-- the text of a prefix
abbrev pub block_text : Block → List ℕ
block_text b = b.len ∷ take (bytes_for b.len) (addr_bytes b.addr)

-- the text of a key, with or without its identifier
abbrev pub key_text : Bool → Key → List ℕ
key_text path key = (if path then to_be_bytes w32 key.id else []) ++ block_text key.prefix

-- the texts of keys end to end
abbrev pub keys_text : Bool → List Key → List ℕ
keys_text path keys = flat_map (key_text path) keys

-- the first bits of a number of so many bits; the others are zero
abbrev pub first_bits : ℕ → ℕ → ℕ → ℕ
first_bits width bits n = n / 2 ^ (width - bits) * 2 ^ (width - bits)

-- The address that begins with these bytes and goes on with zeros, as far as its first bits.
-- What the bytes have past the bits isn't looked at.
abbrev pub addr_from : Family → ℕ → List ℕ → Addr
addr_from Ipv4 bits field = V4 (first_bits 32 bits (from_be_bytes w32 field))
addr_from Ipv6 bits field = V6 (first_bits 128 bits (from_be_bytes w128 field))

-- a bit count, and so many bits in the fewest bytes
abbrev pub SpellsBlock : Family → List ℕ → Block → Type 0
SpellsBlock family text b =
    (field : List ℕ) × (text ≡ b.len ∷ field) × (b.len ≤ bits_of family) × (length field ≡ bytes_for b.len)
    × (b.addr ≡ addr_from family b.len field)

-- four bytes of identifier, or none and the identifier 0
abbrev pub SpellsId : Bool → List ℕ → ℕ → Type 0
SpellsId true text id = (text ≡ to_be_bytes w32 id) × (id < 2 ^ 32)
SpellsId false text id = (text ≡ []) × (id ≡ 0)

-- an identifier, where there is one, and a prefix
abbrev pub SpellsKey : Bool → Family → List ℕ → Key → Type 0
SpellsKey path family text key =
    (id : List ℕ) × (block : List ℕ) × (text ≡ id ++ block) × SpellsId path id key.id
    × SpellsBlock family block key.prefix
