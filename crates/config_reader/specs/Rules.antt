-- Rules, by which a file is read from the front to its first fault. A rule says what becomes of the tokens that are
-- left: which value is read and which tokens are behind it, or which fault comes first. Rules are made of others, and
-- the first fault of a whole is that of the part that finds one, as each part begins where the one before it ended.
use Rattle.std.specs.Prelude.{ℕ, ◌≡◌, ◌⊎◌, Bool, true, false, ◌==◌, List, Option, Some, None}
use Rattle.token_reader.specs.declared.token.Place.{Place}
use Rattle.token_reader.specs.Tokens.{Token, Mark, Placed, front_token, front_place, behind_front}
use Rattle.config_model.specs.declared.fault.ConfigFault.{ConfigFault}
use Rattle.config_model.specs.declared.fault.ConfigKind.{ConfigKind}
use Rattle.config_model.specs.declared.fault.ConfigKind.TheVariants as kind

-- what becomes of tokens: a value and the tokens behind it, or the first fault
pub data Outcome (V : Type 0) : Type 0 where
  Gives : V → List Placed → Outcome V
  Stops : ConfigFault → Outcome V

-- what may become of the tokens of a file that ends at a place
abbrev pub Rule : Type 0 → Type 1
Rule V = Place → List Placed → Outcome V → Type 0

-- a fault of a kind at a place
abbrev pub fault_at : ConfigKind → Place → ConfigFault
fault_at kind place = record { line = place.line; column = place.column; kind = kind }

-- the value is read, and no token
abbrev pub saying : {V : Type 0} → V → Rule V
saying value end tokens outcome = outcome ≡ Gives value tokens

-- the value, where there is one; the rule stands only where there is
abbrev pub given : {V : Type 0} → Option V → Rule V
given (Some value) end tokens outcome = outcome ≡ Gives value tokens
given None end tokens outcome = ⊥

-- one rule, and behind what it gave another
infixl 10 ◌>>=◌
abbrev pub ◌>>=◌ : {V W : Type 0} → Rule V → (V → Rule W) → Rule W
◌>>=◌ {V} R S end tokens (Gives value rest) =
    (first : V) × (mid : List Placed) × R end tokens (Gives first mid) × S first end mid (Gives value rest)
◌>>=◌ {V} R S end tokens (Stops fault) =
    R end tokens (Stops fault)
    ⊎ ((first : V) × (mid : List Placed) × R end tokens (Gives first mid) × S first end mid (Stops fault))

-- The front token, as the value that it says. Where it says none, or the file ends, that is the fault Token at this
-- place, and where the value is wrong, a fault of another kind.
abbrev pub front : {V : Type 0} → (Token → V → Type 0) → (V → Option ConfigKind) → Rule V
front Says wrong end tokens (Gives value rest) =
    (token : Token) × (front_token tokens ≡ Some token) × Says token value × (wrong value ≡ None)
    × (rest ≡ behind_front tokens)
front {V} Says wrong end tokens (Stops fault) =
    (((token : Token) (value : V) → front_token tokens ≡ Some token → Says token value → ⊥)
    × (fault ≡ fault_at kind.Token (front_place tokens end)))
    ⊎ ((token : Token) × (value : V) × (kind : ConfigKind) × (front_token tokens ≡ Some token) × Says token value
    × (wrong value ≡ Some kind) × (fault ≡ fault_at kind (front_place tokens end)))

-- a kind of fault that is there or not
abbrev pub where_so : ConfigKind → Bool → Option ConfigKind
where_so kind true = Some kind
where_so kind false = None

-- no value is wrong
abbrev pub never : {V : Type 0} → V → Option ConfigKind
never value = None

-- a sign, which may be at fault itself
abbrev pub SaysSign : ℕ → Token → Unit {0} → Type 0
SaysSign sign token value = token ≡ Mark sign

abbrev pub sign_or : ℕ → Option ConfigKind → Rule (Unit {0})
sign_or sign wrong = front (SaysSign sign) (λ value. wrong)

abbrev pub sign : ℕ → Rule (Unit {0})
sign which = sign_or which None

-- whether a sign is in front
abbrev pub is_sign : ℕ → Option Token → Bool
is_sign which (Some (Mark other)) = other == which
is_sign which _ = false

-- whether the file ends
abbrev pub is_end : Option Token → Bool
is_end None = true
is_end (Some token) = false

-- one rule where it is so, and another one where it isn't
abbrev pub either : {V : Type 0} → Bool → Rule V → Rule V → Rule V
either true R S = R
either false R S = S

-- one rule where such a token is in front, and another one where it isn't
abbrev pub by_front : {V : Type 0} → (Option Token → Bool) → Rule V → Rule V → Rule V
by_front such R S end tokens outcome = either (such (front_token tokens)) R S end tokens outcome

-- where the front token stands
abbrev pub here : Rule Place
here end tokens outcome = outcome ≡ Gives (front_place tokens end) tokens

-- A step again and again, each over what the steps before it gave, up to a token in front that ends it.
pub data Until {S : Type 0} (ends : Option Token → Bool) (step : S → Rule S) (end : Place) : S → List Placed → Outcome S
    → Type 0 where
  done : (known : S) (tokens : List Placed) → ends (front_token tokens) ≡ true
      → Until ends step end known tokens (Gives known tokens)
  more : (known after : S) (tokens mid : List Placed) (outcome : Outcome S) → ends (front_token tokens) ≡ false
      → step known end tokens (Gives after mid) → Until ends step end after mid outcome
      → Until ends step end known tokens outcome
  stopped : (known : S) (tokens : List Placed) (fault : ConfigFault) → ends (front_token tokens) ≡ false
      → step known end tokens (Stops fault) → Until ends step end known tokens (Stops fault)

abbrev pub until : {S : Type 0} → (Option Token → Bool) → (S → Rule S) → S → Rule S
until ends step known end tokens outcome = Until ends step end known tokens outcome
