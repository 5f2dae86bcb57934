-- How many bytes path attributes take (RFC 4271, section 4.3).
use Rattle.std.specs.Prelude.{ℕ, ◌+◌, ◌*◌, ◌≤◌, ◌==◌, nat_lt, Bool, List, length, is_some, sum_by, if◌then◌else◌}
use Rattle.route_values.specs.declared.addr.Addr.{Addr}
use Rattle.route_values.specs.declared.addr.Addr.TheVariants.{V4, V6}
use Rattle.route_values.specs.declared.addr.Family.{Family}
use Rattle.route_values.specs.declared.addr.Family.TheVariants.{Ipv4, Ipv6}
use Rattle.route_values.specs.declared.attrs.WireAttrs.{WireAttrs}
use Rattle.route_values.specs.declared.path.Segment.{Segment}
use Rattle.update_grammar.specs.Codes.{short_max, number_len, aggregator_len, ext_len, large_len, family_len}
use Rattle.update_grammar.specs.Codes.{ipv4_hop_len, ipv6_hop_len}

-- flags, code and a length of one byte
abbrev pub short_head : ℕ
short_head = 3

-- flags, code and a length of two bytes
abbrev pub long_head : ℕ
long_head = 4

-- a type and a count before the numbers of a segment
abbrev pub segment_head : ℕ
segment_head = 2

-- family, length of the next hop, and a reserved byte: what an MP_REACH_NLRI has beside next hop and prefixes
abbrev pub reach_fixed : ℕ
reach_fixed = 5

-- a segment's count is one byte
abbrev pub IsShort : Segment → Type 0
IsShort s = length s.numbers ≤ short_max

-- flags, code and length of an attribute whose value has so many bytes: the length has two bytes past 255
abbrev pub head_size : ℕ → ℕ
head_size n = if nat_lt short_max n then long_head else short_head

-- an attribute whose value has so many bytes
abbrev pub attr_size : ℕ → ℕ
attr_size n = head_size n + n

-- an attribute whose value has so many bytes, at most 255, where it stands
abbrev pub size_if : Bool → ℕ → ℕ
size_if stands n = if stands then short_head + n else 0

-- a list of so many values of so many bytes each; there is no attribute for an empty one
abbrev pub list_size : ℕ → ℕ → ℕ
list_size count width = if count == 0 then 0 else attr_size (count * width)

-- a type, a count, and the numbers
abbrev pub segment_size : Segment → ℕ
segment_size s = segment_head + number_len * length s.numbers

-- the segments of a path
abbrev pub path_size : List Segment → ℕ
path_size path = sum_by segment_size path

-- the bytes of an address
abbrev pub addr_size : Addr → ℕ
addr_size (V4 n) = ipv4_hop_len
addr_size (V6 n) = ipv6_hop_len

-- NEXT_HOP for IPv4, or MP_REACH_NLRI without prefixes for IPv6
abbrev pub hop_size : Family → Addr → ℕ
hop_size Ipv4 hop = short_head + addr_size hop
hop_size Ipv6 hop = short_head + reach_fixed + addr_size hop

-- an MP_UNREACH_NLRI without prefixes
abbrev pub unreach_size : ℕ
unreach_size = short_head + family_len

-- the attributes whose values have a fixed length, of which ORIGIN has one byte
abbrev pub fixed_size : Family → WireAttrs → ℕ
fixed_size family w =
    short_head + 1 + hop_size family w.hop + size_if (is_some w.med) number_len + size_if (is_some w.local_pref)
    number_len
    + size_if w.atomic 0 + size_if (is_some w.aggregator) aggregator_len + size_if (is_some w.originator) number_len

-- the attributes of an announcement without prefixes of IPv6
abbrev pub attributes_size : Family → WireAttrs → ℕ
attributes_size family w =
    fixed_size family w + attr_size (path_size w.path) + list_size (length w.communities) number_len
    + list_size (length w.clusters) number_len + list_size (length w.extended) ext_len + list_size (length w.large)
    large_len
