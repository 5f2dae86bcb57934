-- The bodies of OPEN, NOTIFICATION and ROUTE-REFRESH as they are written (RFC 4271, sections 4.2 and 4.5; RFC 5492,
-- section 4; RFC 2918, section 3).
use Rattle.std.specs.Prelude.{ℕ, ◌==◌, nat_lt, Bool, true, false, not, if◌then◌else◌, List, [], ◌∷◌, ◌++◌, length}
use Rattle.std.specs.Int.{w16, w32, to_be_bytes}
use Rattle.std.specs.List.{flat_map}
use Rattle.route_values.specs.declared.addr.Family.{Family}
use Rattle.route_values.specs.declared.addr.Family.TheVariants.{Ipv4, Ipv6}
use Rattle.route_values.specs.declared.settings.Settings.{Settings}
use Rattle.frame_cutter.specs.declared.refusal.Refusal.{Refusal}
use Rattle.update_grammar.specs.Codes.{afi_ipv4, afi_ipv6, safi_unicast}
use Rattle.update_grammar.specs.Families.{family_text}
use Rattle.session_codec.specs.declared.offer.Path.{Path}
use Rattle.session_codec.specs.declared.offer.Path.TheVariants as way
use Rattle.session_codec.specs.Numbers.{version, caps_type, as_trans, cap_family, cap_refresh, cap_extended, cap_as}
use Rattle.session_codec.specs.Numbers.{cap_paths}

-- a parameter or a capability: a code, and a value behind its length (RFC 4271, section 4.2; RFC 5492, section 4)
pub record Field : Type 0 where
  pub code : ℕ
  pub value : List ℕ

abbrev pub field_text : Field → List ℕ
field_text field = field.code ∷ length field.value ∷ field.value

abbrev pub afi_of : Family → ℕ
afi_of Ipv4 = afi_ipv4
afi_of Ipv6 = afi_ipv6

-- AFI in two bytes, a reserved byte, and SAFI (RFC 4760, section 8; RFC 2918, section 3)
abbrev pub family_field : Family → List ℕ
family_field family = 0 ∷ afi_of family ∷ 0 ∷ safi_unicast ∷ []

-- which way path identifiers go for a speaker that takes them or not, and writes them or not
abbrev pub way_of : Bool → Bool → Path
way_of false false = way.None
way_of true false = way.Receive
way_of false true = way.Send
way_of true true = way.Both

-- which way the settings offer them for a family that they have
abbrev pub way_offered : Settings → Family → Path
way_offered own Ipv4 = if own.ipv4 then way_of own.ipv4_receive own.ipv4_send else way.None
way_offered own Ipv6 = if own.ipv6 then way_of own.ipv6_receive own.ipv6_send else way.None

-- an entry of ADD-PATH: a family, and 1 to take, 2 to write, 3 for both (RFC 7911, section 4)
abbrev pub entry_text : Family → Path → List ℕ
entry_text family way.None = []
entry_text family way.Receive = family_text family ++ 1 ∷ []
entry_text family way.Send = family_text family ++ 2 ∷ []
entry_text family way.Both = family_text family ++ 3 ∷ []

abbrev pub entries_text : Settings → List ℕ
entries_text own = entry_text Ipv4 (way_offered own Ipv4) ++ entry_text Ipv6 (way_offered own Ipv6)

-- a field, where it stands
abbrev pub field_when : Bool → ℕ → List ℕ → List Field
field_when stands code value = if stands then (record { code = code; value = value } ∷ []) else []

-- the capabilities that settings offer, in rising order of their codes
abbrev pub offered : Settings → List Field
offered own =
    field_when own.ipv4 cap_family (family_field Ipv4) ++ (field_when own.ipv6 cap_family (family_field Ipv6)
    ++ (field_when own.refresh cap_refresh [] ++ (field_when own.extended cap_extended []
    ++ (field_when true cap_as (to_be_bytes w32 own.local_as)
    ++ field_when (not (length (entries_text own) == 0)) cap_paths (entries_text own)))))

-- the one optional parameter, which holds them
abbrev pub parameter_text : Settings → List ℕ
parameter_text own = field_text (record { code = caps_type; value = flat_map field_text (offered own) })

-- the number of an AS in two bytes (RFC 6793, section 4.1)
abbrev pub as_field : ℕ → ℕ
as_field asn = if nat_lt 65535 asn then as_trans else asn

-- version, AS, hold time, identifier, and the parameters behind their length
unfoldable pub open_body : Settings → List ℕ
open_body own =
    version ∷ (to_be_bytes w16 (as_field own.local_as) ++ (to_be_bytes w16 own.hold
    ++ (to_be_bytes w32 own.router_id ++ (length (parameter_text own) ∷ parameter_text own))))

-- code, subcode and data
abbrev pub notification_body : Refusal → List ℕ
notification_body refusal = refusal.code ∷ refusal.sub ∷ refusal.detail.items
