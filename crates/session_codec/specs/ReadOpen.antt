-- The body of an OPEN as it is read (RFC 4271, sections 4.2 and 6.2; RFC 5492): what it says, or the first reason to
-- refuse it.
use Rattle.std.specs.Prelude.{ℕ, ◌==◌, nat_lt, not, ◌||◌, List, [], length, take, drop, get_or}
use Rattle.std.specs.Prelude.{if◌then◌else◌, Option, Some, None, ok_or, unwrap_or, Result, Ok, Err}
use Rattle.std.specs.Int.{w16, w32, to_be_bytes, from_be_bytes}
use Rattle.std.specs.List.{flat_map}
use Rattle.route_values.specs.declared.addr.Family.TheVariants.{Ipv4, Ipv6}
use Rattle.route_values.specs.declared.settings.Settings.{Settings}
use Rattle.frame_cutter.specs.declared.refusal.Refusal.{Refusal}
use Rattle.frame_cutter.specs.Refusals.{refused}
use Rattle.update_grammar.specs.Steps.{◌>>=◌, each}
use Rattle.session_codec.specs.declared.offer.Open.{Open}
use Rattle.session_codec.specs.declared.offer.Path.TheVariants as way
use Rattle.session_codec.specs.Numbers.{version, caps_type, cap_as, fixed_len}
use Rattle.session_codec.specs.Written.{Field, field_text}
use Rattle.session_codec.specs.Found.{first_as, lists_families, lists_family, lists_refresh, lists_extended, first_way}

-- the refusals of an OPEN, whose code is 2: the version that is supported is the data (RFC 4271, section 6.2)
abbrev pub bad_version : Refusal
bad_version = refused 2 1 (to_be_bytes w16 version)

-- parameters or capabilities that don't fill their field
abbrev pub unspecific : Refusal
unspecific = refused 2 0 []

-- a parameter that isn't of capabilities
abbrev pub bad_parameter : Refusal
bad_parameter = refused 2 4 []

-- no number of an AS: the capability that is wanted is the data, with the own number (RFC 5492, section 5)
abbrev pub wants_as : ℕ → Refusal
wants_as asn = refused 2 7 (field_text (record { code = cap_as; value = to_be_bytes w32 asn }))

-- another AS than the configured one, the identifier 0, a hold time of 1 or 2
abbrev pub bad_as : Refusal
bad_as = refused 2 2 []

abbrev pub bad_id : Refusal
bad_id = refused 2 3 []

abbrev pub bad_hold : Refusal
bad_hold = refused 2 6 []

-- the parameter or capability at the front and the bytes behind it: a code, a length, and a value that is all there
unfoldable pub field_at : List ℕ → Option (Field × List ℕ)
field_at bytes =
    if nat_lt (length bytes) 2 then None else
    if nat_lt (length (drop 2 bytes)) (get_or bytes 1 0) then None else
    Some (
      record { code = get_or bytes 0 0; value = take (get_or bytes 1 0) (drop 2 bytes) },
      drop (get_or bytes 1 0) (drop 2 bytes),
    )

-- a capability (RFC 5492, section 4)
abbrev pub cap_step : Unit {0} → List ℕ → Result (Field × Unit {0} × List ℕ) Refusal
cap_step known bytes = do
  one ← ok_or (field_at bytes) unspecific
  Ok (one.0, tt, one.1)

-- the capabilities of a parameter
abbrev pub caps_in : Field → Result (List Field) Refusal
caps_in parameter = if parameter.code == caps_type then each cap_step tt parameter.value else Err bad_parameter

-- a parameter, as the capabilities in it (RFC 4271, section 4.2)
abbrev pub parameter_step : Unit {0} → List ℕ → Result (List Field × Unit {0} × List ℕ) Refusal
parameter_step known bytes = do
  one ← ok_or (field_at bytes) unspecific
  caps ← caps_in one.0
  Ok (caps, tt, one.1)

-- the capabilities of all parameters, in order
abbrev pub all_caps : List (List Field) → List Field
all_caps lists = flat_map (λ caps. caps) lists

-- those of the optional parameters, whose length stands in the byte before them and is that of all that follows
abbrev pub caps_at : List ℕ → Result (List Field) Refusal
caps_at body =
    if not (get_or body 9 0 == length (drop fixed_len body)) then Err unspecific else
    each parameter_step tt (drop fixed_len body) >>= λ lists. Ok (all_caps lists)

-- hold time and identifier
abbrev pub hold_at : List ℕ → ℕ
hold_at body = from_be_bytes w16 (drop 3 body)

abbrev pub id_at : List ℕ → ℕ
id_at body = from_be_bytes w32 (drop 5 body)

-- what an OPEN with these capabilities says; one that lists no family at all has IPv4 (RFC 4760, section 8)
abbrev pub open_of : List ℕ → List Field → ℕ → Open
open_of body caps asn = record {
  asn = asn;
  hold = hold_at body;
  id = id_at body;
  ipv4 = lists_family Ipv4 caps || not (lists_families caps);
  ipv6 = lists_family Ipv6 caps;
  refresh = lists_refresh caps;
  extended = lists_extended caps;
  ipv4_path = unwrap_or (first_way Ipv4 caps) way.None;
  ipv6_path = unwrap_or (first_way Ipv6 caps) way.None;
}

-- the AS, the identifier and the hold time, in this order
abbrev pub judged : Settings → Open → Result Open Refusal
judged own said =
    if not (said.asn == own.peer_as) then Err bad_as else
    if said.id == 0 then Err bad_id else
    if said.hold == 1 || said.hold == 2 then Err bad_hold else Ok said

-- what an OPEN of the right version says, or the first reason to refuse it
abbrev pub opens_four : Settings → List ℕ → Result Open Refusal
opens_four own body = do
  caps ← caps_at body
  asn ← ok_or (first_as caps) (wants_as own.local_as)
  judged own (open_of body caps asn)

-- the OPEN, or the first reason to refuse it
abbrev pub opens : Settings → List ℕ → Result Open Refusal
opens own body = if get_or body 0 0 == version then opens_four own body else Err bad_version
