-- What a text is cut into: tokens, and what stands between them.
use Rattle.std.specs.Prelude.{ℕ, Option, Some, None}
use Rattle.token_reader.specs.Tokens.{Token}

-- what begins with a byte: a token or none, and how many further bytes belong to it
pub record Piece : Type 0 where
  pub token : Option Token
  pub further : ℕ

-- no token
abbrev pub nothing : ℕ → Piece
nothing further = record { token = None; further = further }

-- a token
abbrev pub one : Token → ℕ → Piece
one token further = record { token = Some token; further = further }
