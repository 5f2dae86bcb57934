-- Path attributes as they are read (RFC 4271, sections 4.3, 5 and 6.3): what they say, or the first fault. An attribute
-- is looked at in this order: whether it is cut, its flags, whether its code stood before, the length of its value, and
-- its value.
use Rattle.std.specs.Prelude.{ℕ, ◌+◌, ◌-◌, ◌==◌, nat_lt, Bool, true, false, not, ◌||◌, List, [], ◌∷◌, length, take}
use Rattle.std.specs.Prelude.{drop, get_or, Option, Some, None, option_and_then, option_to_list, ok_or, Result, Ok, Err}
use Rattle.std.specs.Prelude.{if◌then◌else◌}
use Rattle.std.specs.Int.{w16, from_be_bytes}
use Rattle.std.specs.List.{flat_map, list_any}
use Rattle.route_values.specs.Caps.{Caps}
use Rattle.update_grammar.specs.Codes.{code_origin, code_as_path, code_next_hop, code_med, code_local_pref, code_atomic}
use Rattle.update_grammar.specs.Codes.{code_aggregator, code_communities, code_originator, code_clusters, code_reach}
use Rattle.update_grammar.specs.Codes.{code_unreach, code_extended, code_large}
use Rattle.update_grammar.specs.declared.effect.Attr.{Attr}
use Rattle.update_grammar.specs.declared.effect.Attr.TheVariants as says
use Rattle.update_grammar.specs.declared.fault.AttrFault.{AttrFault}
use Rattle.update_grammar.specs.declared.fault.AttrFault.TheVariants as fault
use Rattle.update_grammar.specs.Attributes.{Raw, transitive, optional, optional_transitive, is_extended, kind}
use Rattle.update_grammar.specs.Steps.{◌>>=◌, blamed, each}
use Rattle.update_grammar.specs.ReadValues.{Wrong, BadLength, BadValue, sized, origin_in, path_in, number_in}
use Rattle.update_grammar.specs.ReadValues.{aggregator_in, numbers_in, exts_in, larges_in}
use Rattle.update_grammar.specs.ReadFamilies.{reach_in, unreach_in}

-- a length of two bytes or of one, and the bytes behind it
abbrev pub len_at : Bool → List ℕ → Option (ℕ × List ℕ)
len_at true bytes = if nat_lt (length bytes) 2 then None else Some (from_be_bytes w16 bytes, drop 2 bytes)
len_at false bytes = if nat_lt (length bytes) 1 then None else Some (get_or bytes 0 0, drop 1 bytes)

-- an attribute with a value of so many of the bytes, and the bytes behind it
abbrev pub raw_with : ℕ → ℕ → ℕ × List ℕ → Option (Raw × List ℕ)
raw_with flags code (len, bytes) =
    if nat_lt (length bytes) len then None else
    Some (record { flags = flags; code = code; value = take len bytes }, drop len bytes)

-- the attribute at the front and the bytes behind it, or none where it is cut
unfoldable pub raw_at : List ℕ → Option (Raw × List ℕ)
raw_at bytes =
    if nat_lt (length bytes) 2 then None else
    option_and_then (raw_with (get_or bytes 0 0) (get_or bytes 1 0))
    (len_at (is_extended (get_or bytes 0 0)) (drop 2 bytes))

-- the flags of a known code
abbrev pub flags_of_code : ℕ → Option ℕ
flags_of_code code =
    if code == code_origin || code == code_as_path || code == code_next_hop || code == code_local_pref
    || code == code_atomic then Some transitive else
    if code == code_med || code == code_originator || code == code_clusters || code == code_reach
    || code == code_unreach then Some optional else
    if code == code_aggregator || code == code_communities || code == code_extended || code == code_large
    then Some optional_transitive else None

-- a known code has its own optional and transitive bits, an unknown one is optional
abbrev pub has_flags : Option ℕ → ℕ → Bool
has_flags (Some wanted) flags = kind flags == kind wanted
has_flags None flags = not (nat_lt flags optional)

-- what a value says
abbrev pub said_as : {A : Type 0} → (A → Attr) → Result A Wrong → Result (Option Attr) Wrong
said_as say read = read >>= λ value. Ok (Some (say value))

-- what a value of a code says; one of an unknown code says nothing
unfoldable pub value_in : Caps → ℕ → List ℕ → Result (Option Attr) Wrong
value_in caps code value =
    if code == code_origin then said_as says.Origin (origin_in value) else
    if code == code_as_path then said_as says.Path (path_in value) else
    if code == code_next_hop then said_as says.NextHop (number_in value) else
    if code == code_med then said_as says.Med (number_in value) else
    if code == code_local_pref then said_as says.LocalPref (number_in value) else
    if code == code_atomic then said_as (λ empty. says.Atomic) (sized 0 (λ bytes. bytes) value) else
    if code == code_aggregator then said_as says.Aggregator (aggregator_in value) else
    if code == code_communities then said_as says.Communities (numbers_in value) else
    if code == code_originator then said_as says.Originator (number_in value) else
    if code == code_clusters then said_as says.Clusters (numbers_in value) else
    if code == code_reach then said_as says.Reach (reach_in caps value) else
    if code == code_unreach then said_as says.Unreach (unreach_in caps value) else
    if code == code_extended then said_as says.Extended (exts_in value) else
    if code == code_large then said_as says.Large (larges_in value) else Ok None

-- how many bytes stand before a value: flags, code, and a length of one byte or of two
abbrev pub head_len : ℕ → ℕ
head_len flags = if is_extended flags then 4 else 3

-- what is wrong with the value of an attribute at a place: its length, behind flags and code, or the value
abbrev pub value_fault : ℕ → ℕ → Wrong → AttrFault
value_fault place flags BadLength = fault.BadLength (place + 2)
value_fault place flags BadValue = fault.BadValue (place + head_len flags)

-- what is known before an attribute: its place, and the codes before it
pub record Before : Type 0 where
  pub place : ℕ
  pub codes : List ℕ

-- what an attribute says behind others
unfoldable pub attr_of : Caps → Before → Raw → Result (Option Attr) AttrFault
attr_of caps before a =
    if not (has_flags (flags_of_code a.code) a.flags) then Err (fault.BadFlags before.place) else
    if list_any (λ code. code == a.code) before.codes then Err (fault.Twice before.place) else
    blamed (value_fault before.place a.flags) (value_in caps a.code a.value)

-- the attribute at the front, or its fault
abbrev pub attr_step : Caps → Before → List ℕ → Result (Option Attr × Before × List ℕ) AttrFault
attr_step caps before bytes = do
  one ← ok_or (raw_at bytes) (fault.Cut before.place)
  said ← attr_of caps before one.0
  Ok (said, record { place = before.place + (length bytes - length one.1); codes = one.0.code ∷ before.codes }, one.1)

-- what the attributes say that the bytes are made of, without those that say nothing, or the first fault
unfoldable pub attrs_in : Caps → List ℕ → Result (List Attr) AttrFault
attrs_in caps bytes = do
  said ← each (attr_step caps) (record { place = 0; codes = [] }) bytes
  Ok (flat_map option_to_list said)

-- where a fault stands
abbrev pub place_of : AttrFault → ℕ
place_of (fault.Cut place) = place
place_of (fault.BadFlags place) = place
place_of (fault.Twice place) = place
place_of (fault.BadLength place) = place
place_of (fault.BadValue place) = place
place_of fault.NoMemory = 0
