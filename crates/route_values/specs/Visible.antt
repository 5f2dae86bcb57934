-- Which keys a session carries: those of its families, and of a family without path identifiers those with
-- identifier 0 alone (RFC 7911, section 3). So no two visible keys look alike on the wire.
use Rattle.std.specs.Prelude.{◌≡◌, ◌⊎◌, Bool, IsTrue}
use Rattle.route_values.specs.declared.addr.Family.{Family}
use Rattle.route_values.specs.declared.addr.Family.TheVariants.{Ipv4, Ipv6}
use Rattle.route_values.specs.declared.key.Key.{Key}
use Rattle.route_values.specs.Caps.{Caps}
use Rattle.route_values.specs.Key.{family_of_key}

-- whether routes of the family are carried
abbrev pub has_family : Caps → Family → Bool
has_family caps Ipv4 = caps.ipv4
has_family caps Ipv6 = caps.ipv6

-- whether prefixes of the family have path identifiers
abbrev pub has_path : Caps → Family → Bool
has_path caps Ipv4 = caps.ipv4_path
has_path caps Ipv6 = caps.ipv6_path

-- the session carries the key
abbrev pub IsVisible : Key → Caps → Type 0
IsVisible key caps =
    IsTrue (has_family caps (family_of_key key)) × ((key.id ≡ 0) ⊎ IsTrue (has_path caps (family_of_key key)))
