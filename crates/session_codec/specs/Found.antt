-- What the capabilities of an OPEN say (RFC 5492, section 4). Those whose code isn't known here are passed over, and so
-- are those whose value hasn't the length, or the form, that their code asks for.
use Rattle.std.specs.Prelude.{ℕ, ◌==◌, nat_lt, Bool, true, false, ◌&&◌, List, [], ◌∷◌, length, drop, get_or}
use Rattle.std.specs.Prelude.{if◌then◌else◌, Option, Some, None, option_map, ok_or, Result, Ok, Err}
use Rattle.std.specs.Int.{w16, w32, from_be_bytes}
use Rattle.std.specs.Option.{option_or}
use Rattle.std.specs.List.{flat_map, list_any}
use Rattle.route_values.specs.declared.addr.Family.{Family}
use Rattle.route_values.specs.declared.addr.Family.TheVariants.{Ipv4, Ipv6}
use Rattle.update_grammar.specs.ReadFamilies.{family_of_numbers}
use Rattle.update_grammar.specs.Steps.{◌>>=◌, each}
use Rattle.session_codec.specs.declared.offer.Path.{Path}
use Rattle.session_codec.specs.declared.offer.Path.TheVariants as way
use Rattle.session_codec.specs.Numbers.{cap_family, cap_refresh, cap_extended, cap_as, cap_paths}
use Rattle.session_codec.specs.Written.{Field}

-- the first answer that a question finds among items
abbrev pub first_some : {X A : Type 0} → (X → Option A) → List X → Option A
first_some ask [] = None
first_some ask (x ∷ xs) = option_or (ask x) (first_some ask xs)

-- a capability of this code whose value has so many bytes
abbrev pub is_cap : ℕ → ℕ → Field → Bool
is_cap code len cap = cap.code == code && length cap.value == len

-- the number of an AS (RFC 6793, section 3)
abbrev pub as_said : Field → Option ℕ
as_said cap = if is_cap cap_as 4 cap then Some (from_be_bytes w32 cap.value) else None

-- AFI, a byte that isn't looked at, and SAFI (RFC 4760, section 8)
abbrev pub family_in : List ℕ → Option Family
family_in value = family_of_numbers (from_be_bytes w16 value) (get_or value 3 0)

abbrev pub is_family : Family → Option Family → Bool
is_family Ipv4 (Some Ipv4) = true
is_family Ipv4 (Some Ipv6) = false
is_family Ipv6 (Some Ipv4) = false
is_family Ipv6 (Some Ipv6) = true
is_family Ipv4 None = false
is_family Ipv6 None = false

-- a capability that says that its speaker has a family
abbrev pub has_said : Family → Field → Bool
has_said family cap = is_cap cap_family 4 cap && is_family family (family_in cap.value)

-- an entry of ADD-PATH: the family, where it is one of these, and the way (RFC 7911, section 4)
pub record Entry : Type 0 where
  pub family : Option Family
  pub goes : Path

abbrev pub way_of_number : ℕ → Option Path
way_of_number n =
    if n == 1 then Some way.Receive else if n == 2 then Some way.Send else if n == 3 then Some way.Both else None

-- the entry at the front and the bytes behind it: AFI, SAFI, and a way that is known
unfoldable pub entry_at : List ℕ → Option (Entry × List ℕ)
entry_at bytes =
    if nat_lt (length bytes) 4 then None else
    option_map
    (λ goes.
    (record { family = family_of_numbers (from_be_bytes w16 bytes) (get_or bytes 2 0); goes = goes }, drop 4 bytes))
    (way_of_number (get_or bytes 3 0))

abbrev pub entry_step : Unit {0} → List ℕ → Result (Entry × Unit {0} × List ℕ) (Unit {0})
entry_step known bytes = do
  one ← ok_or (entry_at bytes) tt
  Ok (one.0, tt, one.1)

-- the entries that a value is made of; one that isn't made of entries says nothing
abbrev pub entries_of : Result (List Entry) (Unit {0}) → List Entry
entries_of (Ok entries) = entries
entries_of (Err e) = []

abbrev pub entries_said : Field → List Entry
entries_said cap = if cap.code == cap_paths then entries_of (each entry_step tt cap.value) else []

-- the way of a family, where the entry has it
abbrev pub way_for : Family → Entry → Option Path
way_for family entry = if is_family family entry.family then Some entry.goes else None

-- What all capabilities say: the first number of an AS; whether a family is among them; whether capabilities without a
-- value are; the first way of a family.
abbrev pub first_as : List Field → Option ℕ
first_as caps = first_some as_said caps

abbrev pub lists_families : List Field → Bool
lists_families caps = list_any (is_cap cap_family 4) caps

abbrev pub lists_family : Family → List Field → Bool
lists_family family caps = list_any (has_said family) caps

abbrev pub lists_refresh : List Field → Bool
lists_refresh caps = list_any (is_cap cap_refresh 0) caps

abbrev pub lists_extended : List Field → Bool
lists_extended caps = list_any (is_cap cap_extended 0) caps

abbrev pub first_way : Family → List Field → Option Path
first_way family caps = first_some (way_for family) (flat_map entries_said caps)
