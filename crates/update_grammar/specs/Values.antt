-- The values of path attributes as bytes (RFC 4271, section 4.3; RFC 6793; RFC 1997; RFC 4360; RFC 4456; RFC 8092).
use Rattle.std.specs.Prelude.{ℕ, ◌≡◌, ◌^◌, ◌<◌, ◌≤◌, List, ◌∷◌, ◌++◌, length, if◌then◌else◌}
use Rattle.std.specs.List.{flat_map, AllByRecursion}
use Rattle.std.specs.Int.{w32, to_be_bytes}
use Rattle.route_values.specs.declared.attrs.Aggregator.{Aggregator}
use Rattle.route_values.specs.declared.attrs.Large.{Large}
use Rattle.route_values.specs.declared.attrs.Origin.{Origin}
use Rattle.route_values.specs.declared.attrs.Origin.TheVariants.{Igp, Egp, Incomplete}
use Rattle.route_values.specs.declared.path.Segment.{Segment}
use Rattle.update_grammar.specs.Codes.{set_type, sequence_type, ext_len, short_max}

-- what four bytes can hold
abbrev pub IsNumber : ℕ → Type 0
IsNumber n = n < 2 ^ 32

-- a number in four bytes
abbrev pub number_text : ℕ → List ℕ
number_text n = to_be_bytes w32 n

-- numbers in four bytes each
abbrev pub numbers_text : List ℕ → List ℕ
numbers_text ns = flat_map number_text ns

-- the number of an origin
abbrev pub origin_number : Origin → ℕ
origin_number Igp = 0
origin_number Egp = 1
origin_number Incomplete = 2

-- a segment: 1 for a set or 2 for a sequence, a count, and so many numbers
abbrev pub segment_text : Segment → List ℕ
segment_text s = (if s.set then set_type else sequence_type) ∷ length s.numbers ∷ numbers_text s.numbers

-- the segments end to end
abbrev pub path_text : List Segment → List ℕ
path_text segments = flat_map segment_text segments

-- a segment that has a text: from 1 to 255 numbers
pub record IsSegment (s : Segment) : Type 0 where
  pub filled : 0 < length s.numbers
  pub short : length s.numbers ≤ short_max
  pub numbers : AllByRecursion IsNumber s.numbers

-- an AS number and an IPv4 address
abbrev pub aggregator_text : Aggregator → List ℕ
aggregator_text a = number_text a.asn ++ number_text a.addr

pub record IsAggregator (a : Aggregator) : Type 0 where
  pub asn : IsNumber a.asn
  pub addr : IsNumber a.addr

-- extended communities of eight bytes each
abbrev pub exts_text : List (List ℕ) → List ℕ
exts_text exts = flat_map (λ ext. ext) exts

abbrev pub IsExt : List ℕ → Type 0
IsExt ext = length ext ≡ ext_len

-- large communities of three numbers each
abbrev pub large_text : Large → List ℕ
large_text l = number_text l.global ++ (number_text l.first ++ number_text l.second)

abbrev pub larges_text : List Large → List ℕ
larges_text larges = flat_map large_text larges

pub record IsLarge (l : Large) : Type 0 where
  pub global : IsNumber l.global
  pub first : IsNumber l.first
  pub second : IsNumber l.second
