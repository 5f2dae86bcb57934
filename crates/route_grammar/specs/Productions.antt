-- Productions of a grammar of tokens, which tokens begin a reading, and the first fault of tokens.
use Rattle.std.specs.Prelude.{ℕ, ◌≡◌, ◌≢◌, ◌⊎◌, Bool, true, false, List, [], ◌∷◌, ◌++◌, length, Option, Some, None}
use Rattle.token_reader.specs.Tokens.{Token, Word}
use Rattle.route_grammar.specs.Limits.{Counted, Limits, raised}

-- what the tokens say under the limits: a relation between tokens and a value
abbrev pub Production : Type 0 → Type 1
Production V = Limits → List Token → V → Type 0

-- the front token, if there is one
abbrev pub front : List Token → Option Token
front [] = None
front (token ∷ tokens) = Some token

-- further tokens make a reading of these
abbrev pub Begins : {V : Type 0} → Production V → Limits → List Token → Type 0
Begins {V = V} R limits tokens = (more : List Token) × (value : V) × R limits (tokens ++ more) value

-- Which tokens behind a reading would go on with it, so that it ends before another token, or at the end. A production
-- whose readings end by themselves has none of them; a line's end comes before no token.
abbrev pub Further : Type 0
Further = Option Token → Bool

abbrev pub nothing_further : Further
nothing_further token = false

abbrev pub all_further : Further
all_further (Some token) = true
all_further None = false

-- The limits for which a token is at fault: those in force. At a word also those of which one is raised, besides the
-- one
-- that the word passes.
pub data IsHeld (limits : Limits) (token : Option Token) (over : Option Counted) : Limits → Type 0 where
  in_force : IsHeld limits token over limits
  other : (word : List ℕ) (which : Counted) → token ≡ Some (Word word) → over ≢ Some which
      → IsHeld limits token over (raised which limits)

-- where a list is over its limit, its next element is a word that makes no fault with that limit raised
abbrev pub IsOver : {V : Type 0} → Production V → Limits → List Token → Option Token → Option Counted → Type 0
IsOver R limits before token None = Unit {0}
IsOver R limits before token (Some which) =
    (word : List ℕ) × (token ≡ Some (Word word)) × Begins R (raised which limits) (before ++ Word word ∷ [])

-- The first fault is at this token, or at the end, behind these tokens: they begin a reading, and with the token they
-- begin none that ends before a token that doesn't go on with it.
pub record IsFault {V : Type 0} (R : Production V) (further : Further) (limits : Limits) (before : List Token)
    (token : Option Token) (over : Option Counted) : Type 0 where
  pub begins : Begins R limits before
  pub none : (held : Limits) (rest tokens others : List Token) (value : V) → IsHeld limits token over held
      → front rest ≡ token → before ++ rest ≡ tokens ++ others → R held tokens value → further (front others) ≡ false
      → ⊥
  pub over_is : IsOver R limits before token over

-- These tokens are read as the value, and end before this token, or at the end: no other front of theirs is read, and
-- they say nothing else, whatever is behind that token and whatever the limits are.
pub record IsRead {V : Type 0} (R : Production V) (further : Further) (limits : Limits) (before : List Token)
    (token : Option Token) (value : V) : Type 0 where
  pub found : R limits before value
  pub ends : further token ≡ false
  pub only : (held : Limits) (rest tokens others : List Token) (said : V) → front rest ≡ token
      → before ++ rest ≡ tokens ++ others → R held tokens said → further (front others) ≡ false
      → (tokens ≡ before) × (said ≡ value)

-- the first fault of a whole line: it is behind so many of its tokens
abbrev pub IsFirstFault : {V : Type 0} → Production V → Limits → List Token → ℕ → Option Counted → Type 0
IsFirstFault R limits tokens place over =
    (before : List Token) × (left : List Token) × (tokens ≡ before ++ left) × (place ≡ length before)
    × IsFault R all_further limits before (front left) over

-- one token
abbrev pub OneToken : Token → Production (Unit {0})
OneToken token limits tokens value = tokens ≡ token ∷ []

-- one word that spells the value
abbrev pub OneWord : {V : Type 0} → (List ℕ → V → Type 0) → Production V
OneWord Spells limits tokens value = (word : List ℕ) × (tokens ≡ Word word ∷ []) × Spells word value

-- a production, and then another that depends on what the first one said
abbrev pub Then : {V W : Type 0} → Production V → (V → Production W) → Production W
Then {V = V} R S limits tokens value =
    (first : V) × (front_tokens : List Token) × (back_tokens : List Token)
    × (tokens ≡ front_tokens ++ back_tokens) × R limits front_tokens first × S first limits back_tokens value

-- what a production says, in other words
abbrev pub Saying : {V W : Type 0} → (V → W) → Production V → Production W
Saying {V = V} say R limits tokens value = (said : V) × (value ≡ say said) × R limits tokens said

-- one production or another
abbrev pub Either : {V : Type 0} → Production V → Production V → Production V
Either R S limits tokens value = R limits tokens value ⊎ S limits tokens value

-- readings of a production put end to end
abbrev pub Repeated : {V : Type 0} → Production V → Limits → List Token → List V → Type 0
Repeated R limits tokens [] = tokens ≡ []
Repeated R limits tokens (value ∷ values) =
    (text : List Token) × (rest : List Token) × (tokens ≡ text ++ rest) × R limits text value
    × Repeated R limits rest values

-- readings that meet a condition together, and what they say
abbrev pub Row : {V W : Type 0} → Production V → (Limits → List V → Type 0) → (List V → W) → Production W
Row {V = V} R Fit say limits tokens said =
    (values : List V) × Repeated R limits tokens values × Fit limits values × (said ≡ say values)

-- a sign, readings that meet a condition together, and another sign
abbrev pub Bracketed : {V : Type 0} → Token → Token → Production V → (Limits → List V → Type 0) → Production (List V)
Bracketed opening closing R Fit limits tokens values =
    (inner : List Token) × (tokens ≡ opening ∷ (inner ++ closing ∷ [])) × Repeated R limits inner values
    × Fit limits values
