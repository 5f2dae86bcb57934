-- Joined words, as the code holds them.
use Rattle.std.specs.Prelude.{ℕ, ◌≡◌, nat_lt, false, List, ◌++◌, length, Result, Ok, Err}
use Rattle.token_reader.specs.declared.token.Place.{Place}
use Rattle.token_reader.specs.Tokens.{Placed}
use Rattle.config_reader.specs.declared.fault.ConfigError.{ConfigError}
use Rattle.config_reader.specs.declared.fault.ConfigError.TheVariants.{Refused, NoMemory}
use Rattle.config_reader.specs.declared.joined.Joined.{Joined}
use Rattle.config_reader.specs.Rules.{Rule, Gives, Stops}
use Rattle.config_reader.specs.Words.{any_word}

-- the words are held, or they are known to have over 1,024 bytes
pub record Holds (joined : Joined) (run : List ℕ) : Type 0 where
  pub over : joined.over ≡ nat_lt 1024 (length run)
  pub bytes : joined.over ≡ false → joined.bytes.items ≡ run

-- a further word is held behind these, or the front token is none
abbrev pub Joins : List ℕ → Joined → Place → List Placed → List Placed → Result (Unit {0}) ConfigError → Type 0
Joins run joined end tokens left (Ok value) =
    (next : List ℕ) × any_word end tokens (Gives next left) × Holds joined (run ++ next)
Joins run joined end tokens left (Err (Refused fault)) = any_word end tokens (Stops fault)
Joins run joined end tokens left (Err NoMemory) = ⊥

-- the words that a rule gives are held
abbrev pub JoinedAnswers : Rule (List ℕ) → Place → List Placed → List Placed → Result Joined ConfigError → Type 0
JoinedAnswers R end tokens left (Ok joined) = (run : List ℕ) × R end tokens (Gives run left) × Holds joined run
JoinedAnswers R end tokens left (Err (Refused fault)) = R end tokens (Stops fault)
JoinedAnswers R end tokens left (Err NoMemory) = Unit {0}
