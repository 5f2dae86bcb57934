-- What capabilities say, gathered from the front.
use Rattle.std.specs.Prelude.{ℕ, ◌||◌, List, unwrap_or, not, Result, Ok}
use Rattle.std.specs.List.{flat_map}
use Rattle.std.specs.Option.{option_or}
use Rattle.route_values.specs.declared.addr.Family.TheVariants.{Ipv4, Ipv6}
use Rattle.frame_cutter.specs.declared.refusal.Refusal.{Refusal}
use Rattle.update_grammar.specs.Steps.{◌>>=◌, each}
use Rattle.session_codec.specs.declared.offer.Open.{Open}
use Rattle.session_codec.specs.declared.offer.Path.TheVariants as way
use Rattle.session_codec.specs.declared.reading.field.RawField.{RawField}
use Rattle.session_codec.specs.declared.reading.said.Said.{Said}
use Rattle.session_codec.specs.declared.reading.ways.Ways.{Ways}
use Rattle.session_codec.specs.Written.{Field}
use Rattle.session_codec.specs.Numbers.{cap_family, cap_refresh, cap_extended}
use Rattle.session_codec.specs.Found.{first_some, is_cap, as_said, has_said, Entry, entries_said, way_for}
use Rattle.session_codec.specs.Found.{first_as, lists_families, lists_family, lists_refresh, lists_extended}
use Rattle.session_codec.specs.ReadOpen.{cap_step, caps_in, parameter_step, all_caps, caps_at, hold_at, id_at}

-- a parameter or a capability, without where its value lies
abbrev pub field_of : RawField → Field
field_of field = record { code = field.code; value = field.value.now }

-- the first way of each family among entries
abbrev pub ways_by : List Entry → Ways
ways_by entries = record {
  ipv4 = first_some (way_for Ipv4) entries;
  ipv6 = first_some (way_for Ipv6) entries;
}

-- what one entry says, and what stands in front and then what stands behind
abbrev pub ways_of : Entry → Ways
ways_of entry = record { ipv4 = way_for Ipv4 entry; ipv6 = way_for Ipv6 entry }

abbrev pub ways_then : Ways → Ways → Ways
ways_then first next = record { ipv4 = option_or first.ipv4 next.ipv4; ipv6 = option_or first.ipv6 next.ipv6 }

-- what all capabilities say
abbrev pub said_by : List Field → Said
said_by caps = record {
  asn = first_as caps;
  families = lists_families caps;
  ipv4 = lists_family Ipv4 caps;
  ipv6 = lists_family Ipv6 caps;
  refresh = lists_refresh caps;
  extended = lists_extended caps;
  ways = ways_by (flat_map entries_said caps);
}

-- what one says
abbrev pub said_of : Field → Said
said_of cap = record {
  asn = as_said cap;
  families = is_cap cap_family 4 cap;
  ipv4 = has_said Ipv4 cap;
  ipv6 = has_said Ipv6 cap;
  refresh = is_cap cap_refresh 0 cap;
  extended = is_cap cap_extended 0 cap;
  ways = ways_by (entries_said cap);
}

-- what stands in front, and then what stands behind
abbrev pub said_then : Said → Said → Said
said_then first next = record {
  asn = option_or first.asn next.asn;
  families = first.families || next.families;
  ipv4 = first.ipv4 || next.ipv4;
  ipv6 = first.ipv6 || next.ipv6;
  refresh = first.refresh || next.refresh;
  extended = first.extended || next.extended;
  ways = ways_then first.ways next.ways;
}

-- what a step reads, and the bytes behind it, where it is told in other words
abbrev pub told : {S X M E : Type 0} → (S → List ℕ → Result (X × S × List ℕ) E) → (X → M) → S → List ℕ
    → Result (M × List ℕ) E
told step tell known bytes = step known bytes >>= λ one. Ok (tell one.0, one.2)

-- what the capabilities say that bytes are made of, those of a parameter, those of all parameters, and those of a body
abbrev pub said_in_caps : List ℕ → Result Said Refusal
said_in_caps bytes = each cap_step tt bytes >>= λ caps. Ok (said_by caps)

abbrev pub said_in_parameter : Field → Result Said Refusal
said_in_parameter parameter = caps_in parameter >>= λ caps. Ok (said_by caps)

abbrev pub said_in_all : List ℕ → Result Said Refusal
said_in_all bytes = each parameter_step tt bytes >>= λ lists. Ok (said_by (all_caps lists))

abbrev pub said_at : List ℕ → Result Said Refusal
said_at body = caps_at body >>= λ caps. Ok (said_by caps)

-- what an OPEN says whose capabilities say this
abbrev pub open_by : List ℕ → Said → ℕ → Open
open_by body said asn = record {
  asn = asn;
  hold = hold_at body;
  id = id_at body;
  ipv4 = said.ipv4 || not said.families;
  ipv6 = said.ipv6;
  refresh = said.refresh;
  extended = said.extended;
  ipv4_path = unwrap_or said.ways.ipv4 way.None;
  ipv6_path = unwrap_or said.ways.ipv6 way.None;
}
