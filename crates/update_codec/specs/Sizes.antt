-- How many bytes messages and keys take, and by how many attributes and withdrawals grow (RFC 4271, section 4.3; RFC
-- 4760, section 4).
use Rattle.std.specs.Prelude.{ℕ, ◌+◌, nat_lt, Bool, false, length, if◌then◌else◌}
use Rattle.route_values.specs.declared.addr.Family.{Family}
use Rattle.route_values.specs.declared.addr.Family.TheVariants.{Ipv4, Ipv6}
use Rattle.route_values.specs.declared.key.Key.{Key}
use Rattle.route_values.specs.Caps.{Caps}
use Rattle.route_values.specs.Key.{family_of_key}
use Rattle.route_values.specs.Visible.{has_path}
use Rattle.update_grammar.specs.Codes.{short_max}
use Rattle.update_grammar.specs.Prefixes.{key_text}
use Rattle.attr_codec.specs.Sizes.{short_head, unreach_size}

-- the room that every session has for a message (RFC 4271, section 4.1)
abbrev pub least_room : ℕ
least_room = 4096

-- a header, and two lengths of two bytes
abbrev pub frame_len : ℕ
frame_len = 23

-- a withdrawal without prefixes: for IPv6 it has an MP_UNREACH_NLRI
abbrev pub empty_size : Family → ℕ
empty_size Ipv4 = frame_len
empty_size Ipv6 = frame_len + unreach_size

-- the most bytes that a key takes: an identifier, a bit count, and a whole address of IPv6 (RFC 7911, section 3)
abbrev pub longest_key : ℕ
longest_key = 21

-- how many bytes a key takes in a session
abbrev pub key_size : Caps → Key → ℕ
key_size caps key = length (key_text (has_path caps (family_of_key key)) key)

-- whether a length passes a limit with so many more
abbrev pub passes : ℕ → ℕ → ℕ → Bool
passes limit len more = if nat_lt limit len then false else nat_lt limit (len + more)

-- how many bytes an attribute has whose value has 255 bytes: no longer one has a short length
abbrev pub short_attribute : ℕ
short_attribute = short_head + short_max

-- by how many bytes an attribute of so many grows with a prefix of so many: where the value outgrows its length of one
-- byte, that takes one more
abbrev pub attribute_growth : ℕ → ℕ → ℕ
attribute_growth len more = if passes short_attribute len more then more + 1 else more

-- how many bytes a withdrawal has whose MP_UNREACH_NLRI has a value of 255 bytes: no longer one has a short length
abbrev pub short_end : ℕ
short_end = frame_len + short_attribute

-- whether the value of an MP_UNREACH_NLRI passes 255 bytes as a withdrawal of so many bytes gets a prefix of so many
abbrev pub outgrows : ℕ → ℕ → Bool
outgrows len more = passes short_end len more

-- by how many bytes a withdrawal of so many grows with a prefix of so many, as its MP_UNREACH_NLRI does for IPv6
abbrev pub unreach_growth : Family → ℕ → ℕ → ℕ
unreach_growth Ipv4 len more = more
unreach_growth Ipv6 len more = if outgrows len more then more + 1 else more
