-- The values of MP_REACH_NLRI and MP_UNREACH_NLRI as they are read (RFC 4760, sections 3, 4 and 7).
use Rattle.std.specs.Prelude.{ℕ, ◌+◌, ◌==◌, nat_lt, ◌&&◌, ◌||◌, List, length, take, drop, get_or, Option, Some, None}
use Rattle.std.specs.Prelude.{option_and_then, ok_or, Result, Ok, Err, if◌then◌else◌}
use Rattle.std.specs.Int.{w16, w32, w128, from_be_bytes}
use Rattle.route_values.specs.declared.addr.Addr.{Addr}
use Rattle.route_values.specs.declared.addr.Addr.TheVariants.{V4, V6}
use Rattle.route_values.specs.declared.addr.Family.{Family}
use Rattle.route_values.specs.declared.addr.Family.TheVariants.{Ipv4, Ipv6}
use Rattle.route_values.specs.Caps.{Caps}
use Rattle.route_values.specs.declared.key.Key.{Key}
use Rattle.route_values.specs.Visible.{has_family, has_path}
use Rattle.update_grammar.specs.Codes.{afi_ipv4, afi_ipv6, safi_unicast, family_len, ipv4_hop_len, ipv6_hop_len}
use Rattle.update_grammar.specs.Codes.{ipv6_hops_len}
use Rattle.update_grammar.specs.declared.effect.Reached.{Reached}
use Rattle.update_grammar.specs.Steps.{◌>>=◌, blamed}
use Rattle.update_grammar.specs.ReadPrefixes.{keys_in}
use Rattle.update_grammar.specs.ReadValues.{Wrong, BadLength, BadValue}

-- the family of an AFI and a SAFI, of which 1 is unicast
abbrev pub family_of_numbers : ℕ → ℕ → Option Family
family_of_numbers afi safi =
    if afi == afi_ipv4 && safi == safi_unicast then Some Ipv4 else
    if afi == afi_ipv6 && safi == safi_unicast then Some Ipv6 else None

-- a family, where the session has it
abbrev pub agreed : Caps → Family → Option Family
agreed caps family = if has_family caps family then Some family else None

-- the family of the session that a value of at least three bytes begins with
abbrev pub agreed_in : Caps → List ℕ → Option Family
agreed_in caps value = option_and_then (agreed caps) (family_of_numbers (from_be_bytes w16 value) (get_or value 2 0))

-- keys within a value, which means nothing where one of them is none
abbrev pub keys_value : Caps → Family → List ℕ → Result (List Key) Wrong
keys_value caps family bytes = blamed (λ place. BadValue) (keys_in (has_path caps family) family bytes)

-- a next hop: 4 bytes for IPv4; 16 for IPv6, or 32 of which the first 16 count
abbrev pub hop_in : Family → List ℕ → Option Addr
hop_in Ipv4 hop = if length hop == ipv4_hop_len then Some (V4 (from_be_bytes w32 hop)) else None
hop_in Ipv6 hop =
    if length hop == ipv6_hop_len || length hop == ipv6_hops_len then Some (V6 (from_be_bytes w128 hop)) else None

-- what stands behind AFI and SAFI: length of the next hop, next hop, a reserved byte that isn't looked at, prefixes
unfoldable pub reached_in : Caps → Family → List ℕ → Result Reached Wrong
reached_in caps family bytes =
    let len = get_or bytes 0 0 in
    if nat_lt (length bytes) (len + 2) then Err BadLength else (do
      hop ← ok_or (hop_in family (take len (drop 1 bytes))) BadValue
      keys ← keys_value caps family (drop (len + 2) bytes)
      Ok (record { hop = hop; keys = keys }))

-- where the family isn't the session's, nothing more is looked at
abbrev pub where_agreed : {A : Type 0} → (Family → Result A Wrong) → Option Family → Result (Option A) Wrong
where_agreed read None = Ok None
where_agreed read (Some family) = read family >>= λ said. Ok (Some said)

unfoldable pub reach_in : Caps → List ℕ → Result (Option Reached) Wrong
reach_in caps value =
    if nat_lt (length value) family_len then Err BadLength else
    where_agreed (λ family. reached_in caps family (drop family_len value)) (agreed_in caps value)

unfoldable pub unreach_in : Caps → List ℕ → Result (Option (List Key)) Wrong
unreach_in caps value =
    if nat_lt (length value) family_len then Err BadLength else
    where_agreed (λ family. keys_value caps family (drop family_len value)) (agreed_in caps value)
