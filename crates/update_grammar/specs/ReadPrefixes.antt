-- Prefixes as they are read (RFC 4271, section 4.3; RFC 7911, section 3): which keys they are, or where the first
-- stands that is none.
use Rattle.std.specs.Prelude.{ℕ, ◌+◌, ◌-◌, nat_lt, Bool, true, false, List, [], ◌∷◌, length, take, drop, Option, Some}
use Rattle.std.specs.Prelude.{None, option_map, option_and_then, ok_or, Result, Ok, if◌then◌else◌}
use Rattle.std.specs.Int.{w32, from_be_bytes}
use Rattle.route_values.specs.declared.addr.Family.{Family}
use Rattle.route_values.specs.declared.key.Key.{Key}
use Rattle.route_values.specs.Addr.{bits_of}
use Rattle.route_values.specs.Prefix.{Block}
use Rattle.update_grammar.specs.Codes.{id_len}
use Rattle.update_grammar.specs.Prefixes.{bytes_for, addr_from}
use Rattle.update_grammar.specs.Steps.{◌>>=◌, each}

-- the identifier at the front and the bytes behind it: four bytes of it, or none and the identifier 0
abbrev pub id_at : Bool → List ℕ → Option (ℕ × List ℕ)
id_at true bytes = if nat_lt (length bytes) id_len then None else Some (from_be_bytes w32 bytes, drop id_len bytes)
id_at false bytes = Some (0, bytes)

-- the prefix at the front and the bytes behind it: it has no more bits than its family, and all their bytes are there
abbrev pub block_at : Family → List ℕ → Option (Block × List ℕ)
block_at family [] = None
block_at family (bits ∷ bytes) =
    if nat_lt (bits_of family) bits then None else
    if nat_lt (length bytes) (bytes_for bits) then None else
    Some (
      record { addr = addr_from family bits (take (bytes_for bits) bytes); len = bits },
      drop (bytes_for bits) bytes,
    )

-- the key at the front and the bytes behind it
unfoldable pub key_at : Bool → Family → List ℕ → Option (Key × List ℕ)
key_at path family bytes =
    option_and_then
    (λ id. option_map (λ block. (record { prefix = block.0; id = id.0 }, block.1)) (block_at family id.1))
    (id_at path bytes)

-- a key that stands at a place, or the place where none does
abbrev pub key_step : Bool → Family → ℕ → List ℕ → Result (Key × ℕ × List ℕ) ℕ
key_step path family place bytes = do
  one ← ok_or (key_at path family bytes) place
  Ok (one.0, place + (length bytes - length one.1), one.1)

-- the keys that the bytes are made of, or the place of the first that is none
unfoldable pub keys_in : Bool → Family → List ℕ → Result (List Key) ℕ
keys_in path family bytes = each (key_step path family) 0 bytes
