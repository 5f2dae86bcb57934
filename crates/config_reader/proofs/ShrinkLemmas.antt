-- Rules that read at least one token, and rules that give no token back.
use Rattle.std.proofs.Common.{ℕ, ◌≡◌, ◌<◌, ◌≤◌, Bool, true, false, List, [], ◌∷◌, length, Option, Some, None, arith}
use Rattle.std.proofs.Common.{sym, ◌∙◌, ap, refl, subst}
use Rattle.token_reader.specs.declared.token.Place.{Place}
use Rattle.token_reader.specs.Tokens.{Token, Placed, front_token, front_place, behind_front}
use Rattle.config_model.specs.declared.fault.ConfigKind.{ConfigKind}
use Rattle.config_reader.specs.Rules.{
  Rule,
  Outcome,
  Gives,
  Stops,
  Until,
  done,
  more,
  stopped,
  until,
  ◌>>=◌,
  saying,
  front,
}
use Rattle.config_reader.specs.Rules.{either, given, here}

-- fewer tokens are left
abbrev pub Shrinks : {V : Type 0} → Rule V → Type 0
Shrinks {V} R = (end : Place) (tokens rest : List Placed) (value : V) → R end tokens (Gives value rest)
    → length rest < length tokens

-- no more tokens are left
abbrev pub Keeps : {V : Type 0} → Rule V → Type 0
Keeps {V} R = (end : Place) (tokens rest : List Placed) (value : V) → R end tokens (Gives value rest)
    → length rest ≤ length tokens

pub passed_fewer : (tokens : List Placed) (token : Token) → front_token tokens ≡ Some token
    → length (behind_front tokens) < length tokens
passed_fewer [] token at = absurd (cc)
passed_fewer (first ∷ others) token at = omega arith

pub front_passed : (tokens rest : List Placed) (token : Token) → front_token tokens ≡ Some token
    → rest ≡ behind_front tokens → length rest < length tokens
front_passed tokens rest token at is =
    subst (λ (left : List Placed). length left < length tokens) (sym is) (passed_fewer tokens token at)

pub front_shrinks : {V : Type 0} (Says : Token → V → Type 0) (wrong : V → Option ConfigKind)
    → Shrinks (front Says wrong)
front_shrinks Says wrong end tokens rest value (token, at, said, right, is) =
    subst (λ (left : List Placed). length left < length tokens) (sym is) (passed_fewer tokens token at)

same_length : {V : Type 0} (value other : V) (tokens rest : List Placed) → Gives other rest ≡ Gives value tokens
    → length rest ≤ length tokens
same_length value other tokens rest is =
    let same : rest ≡ tokens = cc in subst (λ (left : List Placed). length left ≤ length tokens) (sym same) (omega
    arith)

pub saying_keeps : {V : Type 0} (value : V) → Keeps (saying value)
saying_keeps value end tokens rest other is = same_length value other tokens rest is

pub given_keeps : {V : Type 0} (option : Option V) → Keeps (given option)
given_keeps (Some value) end tokens rest other is = same_length value other tokens rest is
given_keeps None end tokens rest other is = absurd is

pub shrinks_keeps : {V : Type 0} (R : Rule V) → Shrinks R → Keeps R
shrinks_keeps R shrinks end tokens rest value is = omega (arith, shrinks end tokens rest value is)

pub then_shrinks : {V W : Type 0} (R : Rule V) (S : V → Rule W) → Shrinks R → ((first : V) → Keeps (S first))
    → Shrinks (R >>= S)
then_shrinks R S shrinks keeps end tokens rest value (first, mid, here, behind) =
    omega (arith, shrinks end tokens mid first here, keeps first end mid rest value behind)

pub then_keeps : {V W : Type 0} (R : Rule V) (S : V → Rule W) → Keeps R → ((first : V) → Keeps (S first))
    → Keeps (R >>= S)
then_keeps R S less keeps end tokens rest value (first, mid, here, behind) =
    omega (arith, less end tokens mid first here, keeps first end mid rest value behind)

pub then_shrinks_late : {V W : Type 0} (R : Rule V) (S : V → Rule W) → Keeps R → ((first : V) → Shrinks (S first))
    → Shrinks (R >>= S)
then_shrinks_late R S less shrinks end tokens rest value (first, mid, here, behind) =
    omega (arith, less end tokens mid first here, shrinks first end mid rest value behind)

pub here_keeps : Keeps here
here_keeps end tokens rest value is = same_length (front_place tokens end) value tokens rest is

pub either_shrinks : {V : Type 0} (so : Bool) (R S : Rule V) → Shrinks R → Shrinks S → Shrinks (either so R S)
either_shrinks true R S first second end tokens rest value is = first end tokens rest value is
either_shrinks false R S first second end tokens rest value is = second end tokens rest value is

pub either_keeps : {V : Type 0} (so : Bool) (R S : Rule V) → Keeps R → Keeps S → Keeps (either so R S)
either_keeps true R S first second end tokens rest value is = first end tokens rest value is
either_keeps false R S first second end tokens rest value is = second end tokens rest value is

pub until_keeps : {S : Type 0} (ends : Option Token → Bool) (step : S → Rule S) → ((known : S) → Keeps (step known))
    → (end : Place) (known : S) (tokens rest : List Placed) (value : S)
    → Until ends step end known tokens (Gives value rest) → length rest ≤ length tokens
until_keeps ends step keeps end start tokens rest value (done known left is) = omega arith
until_keeps ends step keeps end start tokens rest value (more known after left mid outcome is here behind) =
    omega (arith, keeps known end left mid after here, until_keeps ends step keeps end after mid rest value behind)
