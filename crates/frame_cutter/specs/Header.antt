-- The header of a message (RFC 4271, section 4.1), and its first fault (section 6.1).
use Rattle.std.specs.Prelude.{ℕ, ◌==◌, nat_le, Bool, ◌&&◌, not, if◌then◌else◌, List, take, drop, slice_index, Option}
use Rattle.std.specs.Prelude.{Some, None}
use Rattle.std.specs.Int.{w16, from_be_bytes}
use Rattle.std.specs.List.{list_all}
use Rattle.frame_cutter.specs.declared.kinds.Lengths.{Lengths}
use Rattle.frame_cutter.specs.declared.refusal.Refusal.{Refusal}
use Rattle.frame_cutter.specs.Refusals.{not_synchronized, bad_length, bad_type}

-- the marker, the length of the whole message in two bytes, and the type
pub record Header : Type 0 where
  pub marker : List ℕ
  pub field : List ℕ
  pub kind : ℕ

-- the header at the front of bytes
abbrev pub header_of : List ℕ → Header
header_of bytes = record { marker = take 16 bytes; field = take 2 (drop 16 bytes); kind = slice_index bytes 18 }

-- the length of the whole message
abbrev pub length_of : Header → ℕ
length_of header = from_be_bytes w16 header.field

-- a length that some messages may have
abbrev pub is_within : Lengths → ℕ → Bool
is_within lengths len = nat_le lengths.least len && nat_le len lengths.greatest

abbrev pub range : ℕ → ℕ → Lengths
range least greatest = record { least = least; greatest = greatest }

-- How long messages of a type are, where messages have at most so many bytes: OPEN, UPDATE, NOTIFICATION, KEEPALIVE
-- (RFC 4271, sections 4.2 to 4.5; RFC 8654, section 4) and ROUTE-REFRESH (RFC 2918, section 3). There are no others.
abbrev pub lengths_of : ℕ → ℕ → Option Lengths
lengths_of most kind =
    if kind == 1 then Some (range 29 4096) else
    if kind == 2 then Some (range 23 most) else
    if kind == 3 then Some (range 21 most) else
    if kind == 4 then Some (range 19 19) else
    if kind == 5 then Some (range 23 23) else None

-- the fault of a header whose type has these lengths
abbrev pub kind_fault : Option Lengths → Header → Option Refusal
kind_fault None header = Some (bad_type header.kind)
kind_fault (Some lengths) header = if is_within lengths (length_of header) then None else Some (bad_length header.field)

-- the first fault of a header, where messages have at most so many bytes
unfoldable pub header_fault : ℕ → Header → Option Refusal
header_fault most header =
    if not (list_all (λ byte. byte == 255) header.marker) then Some not_synchronized else
    if not (is_within (range 19 most) (length_of header)) then Some (bad_length header.field) else
    kind_fault (lengths_of most header.kind) header
