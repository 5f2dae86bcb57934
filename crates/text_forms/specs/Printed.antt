-- How addresses and prefixes are printed. A number's text is its decimal digits.
use Rattle.std.specs.Prelude.{ℕ, zero, suc, ◌/◌, ◌%◌, ◌*◌, ◌^◌, false, decimal, List, [], ◌∷◌, ◌++◌}
use Rattle.std.specs.Fmt.{digits, digit_glyph}
use Rattle.route_values.specs.declared.addr.Addr.{Addr}
use Rattle.route_values.specs.declared.addr.Addr.TheVariants.{V4, V6}
use Rattle.route_values.specs.Prefix.{Block}

-- the byte of a number that stands before its last k bytes
abbrev pub byte_at : ℕ → ℕ → ℕ
byte_at k n = n / 256 ^ k % 256

-- the four bytes of an IPv4 address joined by dots, the highest first
abbrev pub ipv4_text : ℕ → List ℕ
ipv4_text n =
    decimal (byte_at 3 n) ++ 46 ∷ (decimal (byte_at 2 n) ++ 46 ∷ (decimal (byte_at 1 n) ++ 46 ∷ decimal (byte_at 0 n)))

-- the group of 16 bits of a number that stands before its last k groups
abbrev pub group_at : ℕ → ℕ → ℕ
group_at k n = n / 2 ^ (16 * k) % 65536

-- a group's lower-case hexadecimal digits, without leading zeros
abbrev pub group_text : ℕ → List ℕ
group_text group = digits 16 false group

-- the same digits with the leading zeros, four in all
abbrev pub padded_group : ℕ → List ℕ
padded_group group =
    digit_glyph false (group / 4096) ∷ digit_glyph false (group / 256 % 16) ∷ digit_glyph false (group / 16 % 16) ∷
    digit_glyph false (group % 16) ∷ []

-- the last k groups of a number, each with `:` before it
unfoldable pub led_groups : ℕ → ℕ → List ℕ
led_groups zero n = []
led_groups (suc k) n = 58 ∷ (group_text (group_at k n) ++ led_groups k n)

-- the eight groups of an IPv6 address joined by `:`, all of them written out
abbrev pub ipv6_text : ℕ → List ℕ
ipv6_text n = group_text (group_at 7 n) ++ led_groups 7 n

-- an address by its family
abbrev pub addr_text : Addr → List ℕ
addr_text (V4 n) = ipv4_text n
addr_text (V6 n) = ipv6_text n

-- an address, `/` and the number of bits
abbrev pub prefix_text : Block → List ℕ
prefix_text block = addr_text block.addr ++ 47 ∷ decimal block.len
