-- Whole files.
use Rattle.std.proofs.Common.{ℕ, ◌≡◌, ◌≤◌, true, List, [], ◌∷◌, length, Some, None}
use Rattle.std.proofs.Common.{Ok}
use Rattle.std.proofs.Common.{Err, refl, subst, inl, inr}
use Rattle.token_reader.specs.declared.token.Place.{Place}
use Rattle.token_reader.specs.FileTokens.{end_of_file, tokens_of_file}
use Rattle.token_reader.specs.Tokens.{Placed, front_token}
use Rattle.config_model.specs.declared.fault.ConfigKind.TheVariants as kind
use Rattle.config_reader.specs.declared.fault.ConfigError.{ConfigError}
use Rattle.config_reader.specs.declared.fault.ConfigError.TheVariants.{Refused, NoMemory}
use Rattle.config_reader.specs.Answered.{Answers}
use Rattle.config_reader.specs.Rules.{Gives, Outcome, Stops, Until, done, is_end, more}
use Rattle.health_core.specs.declared.health.Health.{Health}
use Rattle.health_core.specs.declared.written.Written.{Written}
use Rattle.health_core.specs.Files.{ReadsHealth, passes, without_place}
use Rattle.health_core.specs.Statements.{health_of, statement_at, statements_read, unwritten}

at_end : (tokens : List Placed) → is_end (front_token tokens) ≡ true → tokens ≡ []
at_end [] is = refl
at_end (first ∷ others) is = absurd (cc)

-- nothing is left behind the last statement
nothing_left : (end : Place) (known all : Written) (tokens rest : List Placed)
    → Until is_end statement_at end known tokens (Gives all rest) → rest ≡ []
nothing_left end start all tokens rest (done known left is) = at_end left is
nothing_left end start all tokens rest (more known after left mid outcome is here behind) =
    nothing_left end after all mid rest behind

-- the tokens that are read are those of the bytes
of_bytes : (bytes : List ℕ) (end : Place) (tokens : List Placed) (outcome : Outcome Written)
    → tokens ≡ tokens_of_file bytes → end ≡ end_of_file bytes → statements_read end tokens outcome
    → passes bytes outcome
of_bytes bytes end tokens outcome tokens_are end_is passed =
    subst (λ (place : Place). statements_read place (tokens_of_file bytes) outcome) end_is
    (subst (λ (these : List Placed). statements_read end these outcome) tokens_are passed)

pub passed_whole : (bytes : List ℕ) (end : Place) (tokens left : List Placed) (written : Written)
    → tokens ≡ tokens_of_file bytes → end ≡ end_of_file bytes → statements_read end tokens (Gives written left)
    → passes bytes (Gives written [])
passed_whole bytes end tokens left written tokens_are end_is passed =
    subst (λ (rest : List Placed). passes bytes (Gives written rest)) (nothing_left end unwritten written tokens left
    passed)
    (of_bytes bytes end tokens (Gives written left) tokens_are end_is passed)

-- a statement has the first fault
pub read_stops : (bytes : List ℕ) (end : Place) (tokens left : List Placed) (error : ConfigError)
    → tokens ≡ tokens_of_file bytes → end ≡ end_of_file bytes → length bytes ≤ 1048576
    → Answers statements_read end tokens left (Err error) → ReadsHealth bytes (Err error)
read_stops bytes end tokens left (Refused fault) tokens_are end_is few is =
    inr (few, inl (of_bytes bytes end tokens (Stops fault) tokens_are end_is is))
read_stops bytes end tokens left NoMemory tokens_are end_is few is = tt

-- the statements are read, and nothing is missing
pub read_ends : (bytes : List ℕ) (end : Place) (tokens left : List Placed) (written : Written) (health : Health)
    → tokens ≡ tokens_of_file bytes → end ≡ end_of_file bytes → length bytes ≤ 1048576
    → statements_read end tokens (Gives written left) → health_of written ≡ Some health
    → ReadsHealth bytes (Ok health)
read_ends bytes end tokens left written health tokens_are end_is few passed is =
    (few, written, passed_whole bytes end tokens left written tokens_are end_is passed, is)

-- or something is
pub read_lacks : (bytes : List ℕ) (end : Place) (tokens left : List Placed) (written : Written)
    → tokens ≡ tokens_of_file bytes → end ≡ end_of_file bytes → length bytes ≤ 1048576
    → statements_read end tokens (Gives written left) → health_of written ≡ None
    → ReadsHealth bytes (Err (Refused (without_place kind.Missing)))
read_lacks bytes end tokens left written tokens_are end_is few passed is =
    inr (few, inr ((written, passed_whole bytes end tokens left written tokens_are end_is passed, is), refl))
