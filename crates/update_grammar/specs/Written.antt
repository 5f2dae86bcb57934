-- The one text of each UPDATE message that is written (RFC 4271, sections 4.1 and 4.3; RFC 4760; RFC 4724, section 2).
use Rattle.std.specs.Prelude.{ℕ, ◌≡◌, ◌+◌, ◌^◌, ◌<◌, List, [], ◌∷◌, ◌++◌, length, drop, replicate, nat_lt}
use Rattle.std.specs.Prelude.{if◌then◌else◌, Bool, Option, Some, None, IfSome}
use Rattle.std.specs.List.{flat_map, AllByRecursion}
use Rattle.std.specs.Int.{w16, to_be_bytes}
use Rattle.route_values.specs.declared.addr.Addr.{Addr}
use Rattle.route_values.specs.declared.addr.Family.{Family}
use Rattle.route_values.specs.declared.addr.Family.TheVariants.{Ipv4, Ipv6}
use Rattle.route_values.specs.declared.attrs.WireAttrs.{WireAttrs}
use Rattle.route_values.specs.Caps.{Caps}
use Rattle.route_values.specs.declared.key.Key.{Key}
use Rattle.route_values.specs.Addr.{family_of, number_of, bits_of}
use Rattle.route_values.specs.Key.{family_of_key}
use Rattle.route_values.specs.Prefix.{IsPrefix}
use Rattle.route_values.specs.Visible.{IsVisible}
use Rattle.update_grammar.specs.Codes.{marker_len, header_len, update_type, short_max, code_origin, code_as_path}
use Rattle.update_grammar.specs.Codes.{code_next_hop, code_med, code_local_pref, code_atomic, code_aggregator}
use Rattle.update_grammar.specs.Codes.{code_communities, code_originator, code_clusters, code_reach, code_unreach}
use Rattle.update_grammar.specs.Codes.{code_extended, code_large}
use Rattle.update_grammar.specs.Head.{Head}
use Rattle.update_grammar.specs.Head as head
use Rattle.update_grammar.specs.Prefixes.{addr_bytes, keys_text}
use Rattle.update_grammar.specs.Values.{IsNumber, number_text, numbers_text, origin_number, path_text, IsSegment}
use Rattle.update_grammar.specs.Values.{aggregator_text, IsAggregator, exts_text, IsExt, larges_text, IsLarge}
use Rattle.update_grammar.specs.Attributes.{Raw, raw_text, transitive, optional, optional_transitive, extended_length}
use Rattle.update_grammar.specs.Families.{family_text}
use Rattle.update_grammar.specs.Update.{body}

-- 16 bytes of ones, the length of the whole message, and its type
abbrev pub header : ℕ → ℕ → List ℕ
header len type_code = replicate marker_len 255 ++ (to_be_bytes w16 len ++ type_code ∷ [])

abbrev pub message : ℕ → List ℕ → List ℕ
message type_code bytes = header (header_len + length bytes) type_code ++ bytes

-- extended length is used exactly where the value passes 255 bytes
abbrev pub flags_for : ℕ → ℕ → ℕ
flags_for flags len = if nat_lt short_max len then flags + extended_length else flags

-- an attribute as it is written
abbrev pub raw : ℕ → ℕ → List ℕ → Raw
raw flags code value = record { flags = flags_for flags (length value); code = code; value = value }

-- no attribute, or one with the text of a value
abbrev pub raw_if : {V : Type 0} → (V → List ℕ) → ℕ → ℕ → Option V → List Raw
raw_if text flags code None = []
raw_if text flags code (Some v) = raw flags code (text v) ∷ []

-- no attribute for an empty list
abbrev pub raw_some : {V : Type 0} → (List V → List ℕ) → ℕ → ℕ → List V → List Raw
raw_some text flags code [] = []
raw_some text flags code (v ∷ vs) = raw flags code (text (v ∷ vs)) ∷ []

abbrev pub raw_when : Bool → ℕ → ℕ → List Raw
raw_when stands flags code = if stands then (raw flags code [] ∷ []) else []

-- NEXT_HOP, which an announcement of IPv4 has
abbrev pub hop_raws : Family → Addr → List Raw
hop_raws Ipv4 hop = raw transitive code_next_hop (addr_bytes hop) ∷ []
hop_raws Ipv6 hop = []

-- MP_REACH_NLRI, which an announcement of IPv6 has, with the text of its prefixes
abbrev pub reach_raws : Family → Addr → List ℕ → List Raw
reach_raws Ipv4 hop prefixes = []
reach_raws Ipv6 hop prefixes =
    raw optional code_reach (family_text Ipv6 ++ (length (addr_bytes hop) ∷ (addr_bytes hop ++ 0 ∷ prefixes))) ∷ []

-- the attributes behind those that every announcement has, in rising order of their codes
abbrev pub more_raws : Family → WireAttrs → List ℕ → List Raw
more_raws family w prefixes =
    raw_if number_text optional code_med w.med
    ++ (raw_if number_text transitive code_local_pref w.local_pref
    ++ (raw_when w.atomic transitive code_atomic
    ++ (raw_if aggregator_text optional_transitive code_aggregator w.aggregator
    ++ (raw_some numbers_text optional_transitive code_communities w.communities
    ++ (raw_if number_text optional code_originator w.originator
    ++ (raw_some numbers_text optional code_clusters w.clusters
    ++ (reach_raws family w.hop prefixes
    ++ (raw_some exts_text optional_transitive code_extended w.extended
    ++ raw_some larges_text optional_transitive code_large w.large))))))))

-- the attributes of an announcement, in rising order of their codes
abbrev pub raws_of : Family → WireAttrs → List ℕ → List Raw
raws_of family w prefixes =
    raw transitive code_origin (origin_number w.origin ∷ []) ∷ raw transitive code_as_path (path_text w.path)
    ∷ (hop_raws family w.hop ++ more_raws family w prefixes)

unfoldable pub attributes_text : Family → WireAttrs → List ℕ → List ℕ
attributes_text family w prefixes = flat_map raw_text (raws_of family w prefixes)

-- MP_UNREACH_NLRI of IPv6 with the text of its prefixes
abbrev pub unreach_text : List ℕ → List ℕ
unreach_text prefixes = raw_text (raw optional code_unreach (family_text Ipv6 ++ prefixes))

-- the three fields of the body
abbrev pub written_body : Caps → Head → List Key → List ℕ
written_body caps (head.Gone Ipv4) keys = body (keys_text caps.ipv4_path keys) [] []
written_body caps (head.Gone Ipv6) keys = body [] (unreach_text (keys_text caps.ipv6_path keys)) []
written_body caps (head.Here Ipv4 w) keys = body [] (attributes_text Ipv4 w []) (keys_text caps.ipv4_path keys)
written_body caps (head.Here Ipv6 w) keys = body [] (attributes_text Ipv6 w (keys_text caps.ipv6_path keys)) []
written_body caps (head.End Ipv4) keys = body [] [] []
written_body caps (head.End Ipv6) keys = body [] (unreach_text []) []

-- the message that says of these keys what its head is for; a marker has none
abbrev pub written : Caps → Head → List Key → List ℕ
written caps head keys = message update_type (written_body caps head keys)

-- the body of a message
abbrev pub body_of : List ℕ → List ℕ
body_of bytes = drop header_len bytes

-- a next hop of the family
pub record IsHop (family : Family) (hop : Addr) : Type 0 where
  pub of_family : family_of hop ≡ family
  pub fits : number_of hop < 2 ^ bits_of family

-- attributes that have a text: numbers in their range, and segments of 1 to 255 numbers
pub record IsSendable (family : Family) (w : WireAttrs) : Type 0 where
  pub hop : IsHop family w.hop
  pub path : AllByRecursion IsSegment w.path
  pub med : IfSome w.med IsNumber
  pub local_pref : IfSome w.local_pref IsNumber
  pub aggregator : IfSome w.aggregator IsAggregator
  pub communities : AllByRecursion IsNumber w.communities
  pub originator : IfSome w.originator IsNumber
  pub clusters : AllByRecursion IsNumber w.clusters
  pub extended : AllByRecursion IsExt w.extended
  pub large : AllByRecursion IsLarge w.large

-- a key of the family that the session carries
pub record IsCarried (caps : Caps) (family : Family) (key : Key) : Type 0 where
  pub of_family : family_of_key key ≡ family
  pub visible : IsVisible key caps
  pub prefix : IsPrefix key.prefix.addr key.prefix.len
  pub id : key.id < 2 ^ 32
