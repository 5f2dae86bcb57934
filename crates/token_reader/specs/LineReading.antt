-- A line that is read from the front: its front token, that token's number, and the bytes behind it.
use Rattle.std.specs.Prelude.{ℕ, ◌≡◌, ◌+◌, ◌<◌, ◌≤◌, List, [], ◌++◌, length, Option, IfNone}
use Rattle.std.specs.Option.{option_map, option_to_list}
use Rattle.token_reader.specs.declared.token.Token.{Token as Given}
use Rattle.token_reader.specs.LineTokens.{line_tokens, numbered, nth}
use Rattle.token_reader.specs.Tokens.{Token, Unread, token_told}

-- the front token, and those of the bytes behind it
abbrev pub line_left : Option Given → List ℕ → List Token
line_left front rest = option_to_list (option_map token_told front) ++ line_tokens 0 rest

-- what is left of the line
abbrev pub unread_line : Option Given → ℕ → List ℕ → Unread
unread_line front number rest = record {
  left = numbered number (line_left front rest);
  end = nth (number + length (line_left front rest));
}

-- without a front token nothing is left, and no number passes that of the end of the longest line
pub record IsLineReading (front : Option Given) (number : ℕ) (rest : List ℕ) : Type 0 where
  pub ended : IfNone front (rest ≡ [])
  pub from_one : 0 < number
  pub few : number + length (option_to_list front) + length rest ≤ 65536
