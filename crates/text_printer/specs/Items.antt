-- The tokens of values and of route items as they are printed.
use Rattle.std.specs.Prelude.{ℕ, ◌/◌, ◌%◌, Bool, codes, decimal, List, [], ◌∷◌, ◌++◌, map, Option, Some, None}
use Rattle.std.specs.Prelude.{if◌then◌else◌}
use Rattle.std.specs.List.{flat_map}
use Rattle.hex.specs.Hex.{encode_lower}
use Rattle.route_values.specs.declared.attrs.Aggregator.{Aggregator}
use Rattle.route_values.specs.declared.attrs.Large.{Large}
use Rattle.route_values.specs.declared.attrs.Origin.{Origin}
use Rattle.route_values.specs.declared.attrs.Origin.TheVariants.{Igp, Egp, Incomplete}
use Rattle.route_values.specs.declared.path.Segment.{Segment}
use Rattle.text_forms.specs.Printed.{ipv4_text}
use Rattle.token_reader.specs.Tokens.{Token, Mark, Word}

-- signs that are tokens by themselves: `(`, `)`, `[` and `]`
abbrev pub opening_paren : Token
opening_paren = Mark 40

abbrev pub closing_paren : Token
closing_paren = Mark 41

abbrev pub opening_bracket : Token
opening_bracket = Mark 91

abbrev pub closing_bracket : Token
closing_bracket = Mark 93

-- an origin (RFC 4271, section 5.1.1)
abbrev pub origin_text : Origin → List ℕ
origin_text Igp = codes "igp"
origin_text Egp = codes "egp"
origin_text Incomplete = codes "incomplete"

-- an aggregator: its AS number, `:` and its address
abbrev pub aggregator_text : Aggregator → List ℕ
aggregator_text by = decimal by.asn ++ 58 ∷ ipv4_text by.addr

-- a community: its upper and its lower 16 bits, joined by `:`
abbrev pub community_text : ℕ → List ℕ
community_text number = decimal (number / 65536) ++ 58 ∷ decimal (number % 65536)

-- an extended community: `0x` and its eight bytes
abbrev pub extended_text : List ℕ → List ℕ
extended_text bytes = codes "0x" ++ encode_lower bytes

-- a large community: three numbers joined by `:`
abbrev pub large_text : Large → List ℕ
large_text large = decimal large.global ++ 58 ∷ (decimal large.first ++ 58 ∷ decimal large.second)

-- a word, and one operand
abbrev pub named : List ℕ → List ℕ → List Token
named name operand = Word name ∷ Word operand ∷ []

-- the same where the value is present
abbrev pub named_if : {V : Type 0} → List ℕ → (V → List ℕ) → Option V → List Token
named_if name text None = []
named_if name text (Some value) = named name (text value)

-- a word alone, where it stands
abbrev pub stands_if : List ℕ → Bool → List Token
stands_if name stands = if stands then (Word name ∷ []) else []

-- words, one a value
abbrev pub word_each : {V : Type 0} → (V → List ℕ) → List V → List Token
word_each text values = map (λ value. Word (text value)) values

-- a word, and a list between brackets, unless it is empty
abbrev pub listed : {V : Type 0} → List ℕ → (V → List ℕ) → List V → List Token
listed name text [] = []
listed name text (first ∷ others) =
    Word name ∷ opening_bracket ∷ (word_each text (first ∷ others) ++ closing_bracket ∷ [])

-- a set of numbers, between parentheses
abbrev pub set_tokens : List ℕ → List Token
set_tokens numbers = opening_paren ∷ (word_each decimal numbers ++ closing_paren ∷ [])

-- a segment of a path: a set, or a sequence, which is its numbers (RFC 4271, section 4.3)
abbrev pub segment_tokens : Segment → List Token
segment_tokens segment = if segment.set then set_tokens segment.numbers else word_each decimal segment.numbers

-- a path, also an empty one
abbrev pub path_tokens : List Segment → List Token
path_tokens path = Word (codes "as-path") ∷ opening_bracket ∷ (flat_map segment_tokens path ++ closing_bracket ∷ [])
