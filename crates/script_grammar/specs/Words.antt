-- The words of a script's line, which one space parts.
use Rattle.std.specs.Prelude.{ℕ, ◌==◌, ◌&&◌, ◌^◌, nat_lt, codes, decimal, List, [], ◌∷◌, Option, Some, None}
use Rattle.std.specs.Prelude.{if◌then◌else◌, bytes_eq, option_map}
use Rattle.std.specs.Str.Parse.{digits_value}
use Rattle.route_values.specs.declared.addr.Family.{Family}
use Rattle.route_values.specs.declared.addr.Family.TheVariants.{Ipv4, Ipv6}
use Rattle.script_grammar.specs.declared.names.Name.{Name}
use Rattle.script_grammar.specs.declared.names.Name.TheVariants as name

-- a word, and what stands behind the space that ends it
pub record Parted : Type 0 where
  pub word : List ℕ
  pub rest : List ℕ

abbrev pub parted : List ℕ → List ℕ → Parted
parted word rest = record { word = word; rest = rest }

-- a byte put at the front of the word
abbrev pub onto : ℕ → Parted → Parted
onto b parts = record parts { word = b ∷ parts.word }

-- the first word of a text that has a space
unfoldable pub first_word : List ℕ → Option Parted
first_word [] = None
first_word (b ∷ bs) = if b == 32 then Some (parted [] bs) else option_map (onto b) (first_word bs)

-- the number below a bound that a text spells in decimal digits, without leading zeros
unfoldable pub number_below : ℕ → List ℕ → Option ℕ
number_below bound text =
    if bytes_eq text (decimal (digits_value 10 text)) && nat_lt (digits_value 10 text) bound
    then Some (digits_value 10 text) else None

-- how many helper slots and neighbour slots there are, and how many numbers of 64 bits
abbrev pub helpers : ℕ
helpers = 16

abbrev pub neighbors : ℕ
neighbors = 64

abbrev pub longs : ℕ
longs = 2 ^ 64

-- the word of each event that has operands
abbrev pub name_word : Name → List ℕ
name_word name.Spawn = codes "spawn"
name_word name.Line = codes "line"
name_word name.Take = codes "take"
name_word name.Deaf = codes "deaf"
name_word name.Gone = codes "gone"
name_word name.Peer = codes "peer"
name_word name.Up = codes "up"
name_word name.Down = codes "down"
name_word name.Refresh = codes "refresh"
name_word name.Cut = codes "cut"
name_word name.Drain = codes "drain"
name_word name.Reload = codes "reload"

-- the names of events that are no helper's
abbrev pub slot_names : List Name
slot_names = name.Peer ∷ name.Up ∷ name.Down ∷ name.Refresh ∷ name.Cut ∷ name.Drain ∷ name.Reload ∷ []

abbrev pub all_names : List Name
all_names = name.Spawn ∷ name.Line ∷ name.Take ∷ name.Deaf ∷ name.Gone ∷ slot_names

-- the first of some names that a word is
abbrev pub first_named : List Name → List ℕ → Option Name
first_named [] word = None
first_named (name ∷ names) word = if bytes_eq word (name_word name) then Some name else first_named names word

-- the name that a word is
unfoldable pub name_in : List ℕ → Option Name
name_in word = first_named all_names word

-- the word of each family
abbrev pub family_word : Family → List ℕ
family_word Ipv4 = codes "ipv4"
family_word Ipv6 = codes "ipv6"

-- the family that a word is
unfoldable pub family_in : List ℕ → Option Family
family_in word =
    if bytes_eq word (family_word Ipv4) then Some Ipv4
    else (if bytes_eq word (family_word Ipv6) then Some Ipv6 else None)
