-- The values of path attributes as they are read (RFC 4271, sections 4.3 and 6.3; RFC 6793; RFC 1997; RFC 4360;
-- RFC 4456; RFC 8092): what a value says, or what is wrong with it.
use Rattle.std.specs.Prelude.{ℕ, ◌+◌, ◌*◌, ◌/◌, ◌%◌, ◌==◌, nat_lt, Bool, not, ◌&&◌, ◌||◌, List, [], ◌∷◌, length, map}
use Rattle.std.specs.Prelude.{take, drop, get_or, Result, Ok, Err, if◌then◌else◌}
use Rattle.std.specs.Int.{w32, from_be_bytes}
use Rattle.std.specs.Simd.{first_chunks}
use Rattle.route_values.specs.declared.attrs.Aggregator.{Aggregator}
use Rattle.route_values.specs.declared.attrs.Large.{Large}
use Rattle.route_values.specs.declared.attrs.Origin.{Origin}
use Rattle.route_values.specs.declared.attrs.Origin.TheVariants.{Igp, Egp, Incomplete}
use Rattle.route_values.specs.declared.path.Segment.{Segment}
use Rattle.update_grammar.specs.Codes.{number_len, aggregator_len, ext_len, large_len, set_type, sequence_type}
use Rattle.update_grammar.specs.Steps.{◌>>=◌, each}

-- its length isn't one that the attribute may have, or its parts don't fill it; or else it means nothing
pub data Wrong : Type 0 where
  BadLength : Wrong
  BadValue : Wrong

-- the number in the first four bytes
abbrev pub number_from : List ℕ → ℕ
number_from bytes = from_be_bytes w32 bytes

-- a value of so many bytes
abbrev pub sized : {A : Type 0} → ℕ → (List ℕ → A) → List ℕ → Result A Wrong
sized len say value = if length value == len then Ok (say value) else Err BadLength

-- the items of so many bytes each that stand in the bytes
abbrev pub items_from : {A : Type 0} → ℕ → (List ℕ → A) → List ℕ → List A
items_from width say bytes = map say (first_chunks width (length bytes / width) bytes)

-- a value that is a list of items of so many bytes each, or none
abbrev pub listed : {A : Type 0} → ℕ → (List ℕ → A) → List ℕ → Result (List A) Wrong
listed width say value = if length value % width == 0 then Ok (items_from width say value) else Err BadLength

-- an origin is one byte of at most 2
abbrev pub origin_of : ℕ → Result Origin Wrong
origin_of n = if n == 0 then Ok Igp else if n == 1 then Ok Egp else if n == 2 then Ok Incomplete else Err BadValue

unfoldable pub origin_in : List ℕ → Result Origin Wrong
origin_in value = sized 1 (λ bytes. get_or bytes 0 0) value >>= origin_of

unfoldable pub number_in : List ℕ → Result ℕ Wrong
number_in value = sized number_len number_from value

abbrev pub aggregator_from : List ℕ → Aggregator
aggregator_from bytes = record { asn = number_from bytes; addr = number_from (drop number_len bytes) }

unfoldable pub aggregator_in : List ℕ → Result Aggregator Wrong
aggregator_in value = sized aggregator_len aggregator_from value

unfoldable pub numbers_in : List ℕ → Result (List ℕ) Wrong
numbers_in value = listed number_len number_from value

unfoldable pub exts_in : List ℕ → Result (List (List ℕ)) Wrong
exts_in value = listed ext_len (λ bytes. bytes) value

abbrev pub large_from : List ℕ → Large
large_from bytes = record {
  global = number_from bytes;
  first = number_from (drop number_len bytes);
  second = number_from (drop (2 * number_len) bytes);
}

unfoldable pub larges_in : List ℕ → Result (List Large) Wrong
larges_in value = listed large_len large_from value

-- what stands in the place of a segment: a type, a count, and so many numbers
pub record Part : Type 0 where
  pub kind : ℕ
  pub numbers : List ℕ

-- the part at the front, nothing more to know, and the bytes behind it
unfoldable pub part_at : Unit {0} → List ℕ → Result (Part × Unit {0} × List ℕ) Wrong
part_at known bytes =
    let len = number_len * get_or bytes 1 0 in
    if nat_lt (length bytes) (2 + len) then Err BadLength else
    let numbers = items_from number_len number_from (take len (drop 2 bytes)) in
    Ok (record { kind = get_or bytes 0 0; numbers = numbers }, tt, drop len (drop 2 bytes))

-- a part is a segment where its type is 1 or 2 and it has a number
abbrev pub is_segment : Part → Bool
is_segment part = (part.kind == set_type || part.kind == sequence_type) && not (length part.numbers == 0)

-- the segments that the parts are
abbrev pub segments_of : List Part → Result (List Segment) Wrong
segments_of [] = Ok []
segments_of (part ∷ parts) = if is_segment part then (do
  others ← segments_of parts
  Ok (record { set = part.kind == set_type; numbers = part.numbers } ∷ others)) else Err BadValue

-- parts have to fill the value before it is looked at what they are
unfoldable pub path_in : List ℕ → Result (List Segment) Wrong
path_in value = each part_at tt value >>= segments_of
