-- What a reader of a production answers, and which tokens it leaves.
use Rattle.std.specs.Prelude.{ℕ, ◌≡◌, ◌⊎◌, List, ◌++◌, map, Option, Some, None, Result, Ok, Err}
use Rattle.token_reader.specs.declared.token.Place.{Place}
use Rattle.token_reader.specs.Tokens.{Token, Word, Placed, front_token, front_place}
use Rattle.route_grammar.specs.declared.fault.LineFault.{LineFault}
use Rattle.route_grammar.specs.declared.fault.LineFault.TheVariants.{BadToken, TooMany, TooLong}
use Rattle.route_grammar.specs.declared.fault.ReadFault.{ReadFault}
use Rattle.route_grammar.specs.declared.fault.ReadFault.TheVariants.{Line, NoMemory}
use Rattle.route_grammar.specs.Limits.{Counted, Limits}
use Rattle.route_grammar.specs.Productions.{Production, Further, IsFault, IsRead}

-- tokens without their places
abbrev pub tokens_of : List Placed → List Token
tokens_of placed = map (λ one. one.token) placed

-- the column of the front token, or of the end
abbrev pub column : List Placed → Place → ℕ
column left end = (front_place left end).column

-- the tokens from here on have their first fault where these are left
abbrev pub Faults : {V : Type 0} → Production V → Further → Limits → List Placed → List Placed → Option Counted → Type 0
Faults R further limits tokens left over =
    (before : List Placed) × (tokens ≡ before ++ left)
    × IsFault R further limits (tokens_of before) (front_token left) over

-- the tokens from here on are read as the value up to where these are left
abbrev pub Reads : {V : Type 0} → Production V → Further → Limits → List Placed → List Placed → V → Type 0
Reads R further limits tokens left value =
    (before : List Placed) × (tokens ≡ before ++ left)
    × IsRead R further limits (tokens_of before) (front_token left) value

-- a fault names the front token's column, or the end's, and of a list over its limit that limit
abbrev pub Blames : {V : Type 0} → Production V → Further → Limits → List Placed → List Placed → Place → LineFault →
    Type 0
Blames R further limits tokens left end (BadToken place) =
    (place ≡ column left end) × Faults R further limits tokens left None
Blames R further limits tokens left end (TooMany place limit) =
    (which : Counted) × (limit ≡ limits which) × (place ≡ column left end) × Faults R further limits tokens left (Some
    which)
Blames R further limits tokens left end TooLong = ⊥

-- A reader's answer to the tokens, of which these are left: the value, the first fault, or want of memory, which may
-- come in place of either.
abbrev pub Answers : {V : Type 0} → Production V → Further → Limits → List Placed → List Placed → Place
    → Result V ReadFault → Type 0
Answers R further limits tokens left end (Ok value) = Reads R further limits tokens left value
Answers R further limits tokens left end (Err (Line fault)) = Blames R further limits tokens left end fault
Answers R further limits tokens left end (Err NoMemory) = Unit {0}

-- where a list is full, the front token is one element too many, or it is none
abbrev pub IsNoRoom : {V : Type 0} → (List ℕ → V → Type 0) → List Placed → Place → ℕ → ReadFault → Type 0
IsNoRoom {V = V} Spells left end limit fault =
    ((word : List ℕ) × (value : V) × (front_token left ≡ Some (Word word)) × Spells word value
    × (fault ≡ Line (TooMany (column left end) limit)))
    ⊎ (((word : List ℕ) (value : V) → front_token left ≡ Some (Word word) → Spells word value → ⊥)
    × (fault ≡ Line (BadToken (column left end))))
