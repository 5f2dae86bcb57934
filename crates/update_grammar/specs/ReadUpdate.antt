-- The body of an UPDATE as it is read (RFC 4271, sections 4.3 and 6.3; RFC 4760, section 3): its effects, or the first
-- fault. The order is: the lengths of its fields, withdrawn prefixes, attributes, announced prefixes, what is missing.
use Rattle.std.specs.Prelude.{ℕ, ◌+◌, nat_lt, List, [], ◌∷◌, ◌++◌, length, take, drop, Option, Some, None, ok_or}
use Rattle.std.specs.Prelude.{Result, Ok, if◌then◌else◌}
use Rattle.std.specs.Int.{w16, from_be_bytes}
use Rattle.route_values.specs.declared.addr.Addr.{Addr}
use Rattle.route_values.specs.declared.addr.Addr.TheVariants.{V4}
use Rattle.route_values.specs.declared.addr.Family.TheVariants.{Ipv4}
use Rattle.route_values.specs.declared.attrs.Origin.{Origin}
use Rattle.route_values.specs.Caps.{Caps}
use Rattle.route_values.specs.declared.key.Key.{Key}
use Rattle.route_values.specs.declared.path.Segment.{Segment}
use Rattle.update_grammar.specs.Codes.{code_origin, code_as_path, code_next_hop}
use Rattle.update_grammar.specs.declared.effect.Attr.{Attr}
use Rattle.update_grammar.specs.declared.effect.Effect.{Effect}
use Rattle.update_grammar.specs.declared.effect.Reached.{Reached}
use Rattle.update_grammar.specs.declared.fault.AttrFault.{AttrFault}
use Rattle.update_grammar.specs.declared.fault.AttrFault.TheVariants as attr_fault
use Rattle.update_grammar.specs.declared.fault.UpdateFault.{UpdateFault}
use Rattle.update_grammar.specs.declared.fault.UpdateFault.TheVariants as fault
use Rattle.update_grammar.specs.Steps.{◌>>=◌, blamed}
use Rattle.update_grammar.specs.ReadAttributes.{attrs_in}
use Rattle.update_grammar.specs.ReadPrefixes.{keys_in}
use Rattle.update_grammar.specs.Update.{said_first, as_origin, as_path, as_next_hop, as_reach, as_unreach, gathered}
use Rattle.update_grammar.specs.Update.{here_all, gone_all, unreached}

-- a fault of attributes that stand so many bytes behind the front
abbrev pub moved : ℕ → AttrFault → AttrFault
moved start (attr_fault.Cut place) = attr_fault.Cut (start + place)
moved start (attr_fault.BadFlags place) = attr_fault.BadFlags (start + place)
moved start (attr_fault.Twice place) = attr_fault.Twice (start + place)
moved start (attr_fault.BadLength place) = attr_fault.BadLength (start + place)
moved start (attr_fault.BadValue place) = attr_fault.BadValue (start + place)
moved start attr_fault.NoMemory = attr_fault.NoMemory

-- the field at the front behind its length of two bytes, and the bytes behind it
unfoldable pub field_at : List ℕ → Option (List ℕ × List ℕ)
field_at bytes =
    let len = from_be_bytes w16 bytes in
    let rest = drop 2 bytes in
    if nat_lt (length bytes) (2 + len) then None else Some (take len rest, drop len rest)

-- ORIGIN and AS_PATH, which announcements need
abbrev pub needed : List Attr → Result (Origin × List Segment) UpdateFault
needed said = do
  origin ← ok_or (said_first as_origin said) (fault.MissingAttr code_origin)
  path ← ok_or (said_first as_path said) (fault.MissingAttr code_as_path)
  Ok (origin, path)

-- announcements of keys with this next hop
abbrev pub here_with : List Attr → Addr → List Key → Origin × List Segment → List Effect
here_with said hop keys both = here_all (gathered said hop both.0 both.1) keys

-- what an MP_REACH_NLRI announces, where there is one: it needs them also for another session's family
abbrev pub reached_by : List Attr → Option (Option Reached) → Result (List Effect) UpdateFault
reached_by said None = Ok []
reached_by said (Some None) = needed said >>= λ both. Ok []
reached_by said (Some (Some reached)) = needed said >>= λ both. Ok (here_with said reached.hop reached.keys both)

-- what the prefixes behind the attributes announce, where there are any: they need NEXT_HOP too
abbrev pub announced_by : List Attr → List Key → Result (List Effect) UpdateFault
announced_by said [] = Ok []
announced_by said (key ∷ keys) = do
  both ← needed said
  hop ← ok_or (said_first as_next_hop said) (fault.MissingAttr code_next_hop)
  Ok (here_with said (V4 hop) (key ∷ keys) both)

-- the effects of withdrawn prefixes, attributes and announced prefixes, or the least code that is missing
unfoldable pub effects_of : List Key → List Attr → List Key → Result (List Effect) UpdateFault
effects_of gone said here = do
  reached ← reached_by said (said_first as_reach said)
  news ← announced_by said here
  Ok (gone_all gone ++ gone_all (unreached (said_first as_unreach said)) ++ reached ++ news)

-- a field of prefixes of IPv4 that begins so many bytes behind the front
abbrev pub prefixes_in : Caps → ℕ → List ℕ → Result (List Key) UpdateFault
prefixes_in caps start bytes = blamed (λ place. fault.BadPrefix (start + place)) (keys_in caps.ipv4_path Ipv4 bytes)

-- attributes that begin so many bytes behind the front
abbrev pub said_in : Caps → ℕ → List ℕ → Result (List Attr) UpdateFault
said_in caps start bytes = blamed (λ of_attrs. fault.Attr (moved start of_attrs)) (attrs_in caps bytes)

-- the three fields of a body
pub record Fields : Type 0 where
  pub withdrawn : List ℕ
  pub attributes : List ℕ
  pub announced : List ℕ

unfoldable pub fields_in : List ℕ → Result Fields UpdateFault
fields_in bytes = do
  first ← ok_or (field_at bytes) (fault.BadLengths 0)
  second ← ok_or (field_at first.1) (fault.BadLengths (2 + length first.0))
  Ok (record { withdrawn = first.0; attributes = second.0; announced = second.1 })

-- the effects of a body, or its first fault
unfoldable pub effects_in : Caps → List ℕ → Result (List Effect) UpdateFault
effects_in caps bytes = do
  fields ← fields_in bytes
  gone ← prefixes_in caps 2 fields.withdrawn
  said ← said_in caps (4 + length fields.withdrawn) fields.attributes
  here ← prefixes_in caps (4 + length fields.withdrawn + length fields.attributes) fields.announced
  effects_of gone said here
