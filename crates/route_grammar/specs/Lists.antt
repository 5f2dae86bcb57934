-- Lists of words, and paths of AS numbers.
use Rattle.std.specs.Prelude.{ℕ, ◌≡◌, ◌⊎◌, ◌+◌, ◌<◌, ◌≤◌, true, false, List, [], ◌∷◌, ◌++◌, length}
use Rattle.std.specs.Prelude.{if◌then◌else◌}
use Rattle.route_values.specs.declared.path.Segment.{Segment}
use Rattle.route_values.specs.Path.{AllFilled}
use Rattle.text_forms.specs.Numbers.{IsAsn}
use Rattle.token_reader.specs.Tokens.{Token, Mark, Word}
use Rattle.route_grammar.specs.declared.path.Part.{Part}
use Rattle.route_grammar.specs.declared.path.Part.TheVariants.{Number, Set}
use Rattle.route_grammar.specs.Limits.{Limits, Counted, Numbers}
use Rattle.route_grammar.specs.Productions.{Production, OneWord, Saying, Either, Bracketed}

-- signs that are tokens by themselves: `(`, `)`, `[` and `]`
abbrev pub opening_paren : Token
opening_paren = Mark 40

abbrev pub closing_paren : Token
closing_paren = Mark 41

abbrev pub opening_bracket : Token
opening_bracket = Mark 91

abbrev pub closing_bracket : Token
closing_bracket = Mark 93

-- no more values than the limit allows
abbrev pub AreFew : {V : Type 0} → Counted → Limits → List V → Type 0
AreFew which limits values = length values ≤ limits which

-- the list of one value
abbrev pub single : {V : Type 0} → V → List V
single value = value ∷ []

-- one word, or words between brackets
abbrev pub ListOf : {V : Type 0} → Counted → (List ℕ → V → Type 0) → Production (List V)
ListOf which Spells =
    Either (Saying single (OneWord Spells))
    (Bracketed opening_bracket closing_bracket (OneWord Spells) (AreFew which))

-- one word, alone or between parentheses
abbrev pub AloneOrIn : {V : Type 0} → (List ℕ → V → Type 0) → Production V
AloneOrIn Spells limits tokens value =
    (word : List ℕ) × Spells word value
    × ((tokens ≡ Word word ∷ []) ⊎ (tokens ≡ opening_paren ∷ Word word ∷ closing_paren ∷ []))

-- at least one number, and with those before no more than the limit allows
abbrev pub IsSet : ℕ → Limits → List ℕ → Type 0
IsSet before limits numbers = (0 < length numbers) × (before + length numbers ≤ limits Numbers)

-- a set of numbers, behind so many others
abbrev pub SetBehind : ℕ → Production (List ℕ)
SetBehind before = Bracketed opening_paren closing_paren (OneWord IsAsn) (IsSet before)

-- a number, or a set behind so many numbers
abbrev pub PartBehind : ℕ → Production Part
PartBehind before = Either (Saying Number (OneWord IsAsn)) (Saying Set (SetBehind before))

-- a part of a path
abbrev pub OnePart : Production Part
OnePart = PartBehind 0

-- how many numbers parts have
abbrev pub count_of : List Part → ℕ
count_of [] = 0
count_of (Number n ∷ parts) = 1 + count_of parts
count_of (Set numbers ∷ parts) = length numbers + count_of parts

-- a number at the front of segments: neighbours make one sequence
abbrev pub onto : ℕ → List Segment → List Segment
onto number [] = record { set = false; numbers = number ∷ [] } ∷ []
onto number (first ∷ others) =
    if first.set then record { set = false; numbers = number ∷ [] } ∷ first ∷ others
    else (record { set = false; numbers = number ∷ first.numbers } ∷ others)

-- the segments that parts make
abbrev pub joined : List Part → List Segment
joined [] = []
joined (Number number ∷ parts) = onto number (joined parts)
joined (Set numbers ∷ parts) = record { set = true; numbers = numbers } ∷ joined parts

-- numbers outside parentheses, in front of segments
abbrev pub lead : List ℕ → List Segment → List Segment
lead [] segments = segments
lead (number ∷ numbers) segments = onto number (lead numbers segments)

-- and with a set or nothing behind them
abbrev pub closed : List ℕ → List Segment
closed [] = []
closed (number ∷ numbers) = record { set = false; numbers = number ∷ numbers } ∷ []

-- segments, and a run of numbers that goes on behind them, that parts make, whatever parts follow
pub record AreJoined (segments : List Segment) (run : List ℕ) (parts : List Part) : Type 0 where
  pub joined_are : (more : List Part) → joined (parts ++ more) ≡ segments ++ lead run (joined more)
  pub filled : AllFilled segments

-- together no more numbers than the limit allows
abbrev pub AreFewNumbers : Limits → List Part → Type 0
AreFewNumbers limits parts = count_of parts ≤ limits Numbers

-- a path is one number, or parts between brackets
abbrev pub OnePath : Production (List Segment)
OnePath =
    Either (Saying (λ number. onto number []) (OneWord IsAsn))
    (Saying joined (Bracketed opening_bracket closing_bracket OnePart AreFewNumbers))
