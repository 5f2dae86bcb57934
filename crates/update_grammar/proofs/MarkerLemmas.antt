-- The markers are told apart from each other and from every other message.
use Rattle.std.proofs.Common.{ℕ, ◌≡◌, ◌≢◌, ◌+◌, ◌<◌, ◌≤◌, ◌%◌, Bool, true, false, List, [], ◌∷◌, ◌++◌, length, get_or}
use Rattle.std.proofs.Common.{arith, length-append, ap, if◌then◌else◌}
use Rattle.std.specs.List.{flat_map}
use Rattle.std.specs.Int.{w16, to_be_bytes}
use Rattle.route_values.specs.declared.addr.Family.{Family}
use Rattle.route_values.specs.declared.addr.Family.TheVariants.{Ipv4, Ipv6}
use Rattle.route_values.specs.declared.attrs.WireAttrs.{WireAttrs}
use Rattle.route_values.specs.Caps.{Caps}
use Rattle.route_values.specs.declared.key.Key.{Key}
use Rattle.update_grammar.specs.Prefixes.{keys_text}
use Rattle.update_grammar.specs.Attributes.{Raw, raw_text, raw_head, transitive, optional, is_extended}
use Rattle.update_grammar.specs.Families.{family_text}
use Rattle.update_grammar.specs.Values.{path_text}
use Rattle.update_grammar.specs.Head as head
use Rattle.update_grammar.specs.Laws.{IsMarker, MarkersDiffer, HereIsNoMarker, GoneIsNoMarker}
use Rattle.update_grammar.specs.Written.{written, attributes_text, raw, hop_raws, more_raws, unreach_text}

-- a marker has at most 29 bytes
length_marker : (caps : Caps) (family : Family) → length (written caps (head.End family) []) ≤ 29
length_marker caps Ipv4 = omega arith
length_marker caps Ipv6 = omega arith

-- so what is longer is no marker
long_is_none : (bytes : List ℕ) → 29 < length bytes → ¬ (IsMarker bytes)
long_is_none bytes long marker =
    let same : length bytes ≡ length (written marker.0 (head.End marker.1) []) = ap length marker.2 in
    let short : length (written marker.0 (head.End marker.1) []) ≤ 29 = length_marker marker.0 marker.1 in
    omega arith

-- three bytes or more stand before the value of an attribute
length_head : (flags code len : ℕ) → 3 ≤ length (raw_head flags code len)
length_head flags code len = elim (is_extended flags) as (λ long.
    3 ≤ length (flags ∷ code ∷ (if long then to_be_bytes w16 len else len ∷ [])))
    [ true ↦ omega arith | false ↦ omega arith ]

-- so an attribute is that much longer than its value
length_raw : (a : Raw) → length a.value + 3 ≤ length (raw_text a)
length_raw a =
    let parts : length (raw_text a) ≡ length (raw_head a.flags a.code (length a.value)) + length a.value =
    length-append (raw_head a.flags a.code (length a.value)) a.value in
    let front : 3 ≤ length (raw_head a.flags a.code (length a.value)) = length_head a.flags a.code (length a.value) in
    omega arith

-- the attributes of an announcement have at least seven bytes
length_attributes : (family : Family) (w : WireAttrs) (prefixes : List ℕ)
    → 7 ≤ length (attributes_text family w prefixes)
unfolding attributes_text
length_attributes family w prefixes =
    let path : Raw = raw transitive 2 (path_text w.path) in
    let rest : List ℕ = flat_map raw_text (hop_raws family w.hop ++ more_raws family w prefixes) in
    omega (arith, length-append (raw_text path) rest, length_raw path)

-- an announcement is longer than a marker
here_long : (caps : Caps) (family : Family) (w : WireAttrs) (keys : List Key)
    → 29 < length (written caps (head.Here family w) keys)
here_long caps Ipv4 w keys = omega (
  arith,
  length-append (attributes_text Ipv4 w []) (keys_text caps.ipv4_path keys),
  length_attributes Ipv4 w [],
)
here_long caps Ipv6 w keys =
    let attributes : List ℕ = attributes_text Ipv6 w (keys_text caps.ipv6_path keys) in
    omega (arith, length-append attributes [], length_attributes Ipv6 w (keys_text caps.ipv6_path keys))

-- no announcement is a marker
pub here_is_no_marker : HereIsNoMarker
here_is_no_marker caps family w keys = long_is_none (written caps (head.Here family w) keys)
    (here_long caps family w keys)

-- keys that are there have a text that isn't empty
length_keys : (path : Bool) (key : Key) (keys : List Key) → 0 < length (keys_text path (key ∷ keys))
length_keys true key keys = omega arith
length_keys false key keys = omega arith

-- a withdrawal of IPv6 prefixes is longer than a marker
gone_long : (caps : Caps) (key : Key) (keys : List Key) → 29 < length (written caps (head.Gone Ipv6) (key ∷ keys))
gone_long caps key keys =
    let prefixes : List ℕ = keys_text caps.ipv6_path (key ∷ keys) in
    omega (
      arith,
      length-append (unreach_text prefixes) [],
      length_raw (raw optional 15 (family_text Ipv6 ++ prefixes)),
      length_keys caps.ipv6_path key keys,
    )

-- a withdrawal of IPv4 prefixes has more bytes than the IPv4 marker, and the length of its prefixes where the IPv6
-- marker has zeros
gone_ipv4_is_none : (caps other : Caps) (key : Key) (keys : List Key) (marked : Family)
    → written caps (head.Gone Ipv4) (key ∷ keys) ≢ written other (head.End marked) []
gone_ipv4_is_none caps other key keys Ipv4 same =
    let withdrawn : List ℕ = keys_text caps.ipv4_path (key ∷ keys) in
    omega (
      arith,
      ap length same,
      length-append withdrawn (0 ∷ 0 ∷ []),
      length-append (withdrawn ++ 0 ∷ 0 ∷ []) [],
      length_keys caps.ipv4_path key keys,
    )
gone_ipv4_is_none caps other key keys Ipv6 same =
    let withdrawn : List ℕ = keys_text caps.ipv4_path (key ∷ keys) in
    let counts : length withdrawn % 256 ≡ 0 = ap (λ bytes. get_or bytes 20 0) same in
    omega (
      arith,
      ap length same,
      length-append withdrawn (0 ∷ 0 ∷ []),
      length-append (withdrawn ++ 0 ∷ 0 ∷ []) [],
      length_keys caps.ipv4_path key keys,
      counts,
    )

-- no withdrawal is a marker
pub gone_is_no_marker : GoneIsNoMarker
gone_is_no_marker caps Ipv4 key keys marker = gone_ipv4_is_none caps marker.0 key keys marker.1 marker.2
gone_is_no_marker caps Ipv6 key keys marker = long_is_none (written caps (head.Gone Ipv6) (key ∷ keys))
    (gone_long caps key keys) marker

-- the markers have different lengths
pub markers_differ : MarkersDiffer
markers_differ caps other same = let lengths = ap length same in omega arith
