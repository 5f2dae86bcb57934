-- Tokens, and what is left of a text's tokens.
use Rattle.std.specs.Prelude.{ℕ, List, [], ◌∷◌, Option, Some, None}
use Rattle.token_reader.specs.declared.token.Place.{Place}
use Rattle.token_reader.specs.declared.token.Token.{Token as Given}
use Rattle.token_reader.specs.declared.token.Token.TheVariants as given

-- a sign by itself, a word, what stands between two quotation marks, or a quotation mark that nothing closes
pub data Token : Type 0 where
  Mark : ℕ → Token
  Word : List ℕ → Token
  Quoted : List ℕ → Token
  Unclosed : Token

-- the token, with the bytes that a slice holds
abbrev pub token_told : Given → Token
token_told (given.Mark sign) = Mark sign
token_told (given.Word bytes) = Word bytes.now
token_told (given.Quoted bytes) = Quoted bytes.now
token_told given.Unclosed = Unclosed

-- a token and where it begins
pub record Placed : Type 0 where
  pub token : Token
  pub place : Place

-- the tokens that are left, and where the text ends
pub record Unread : Type 0 where
  pub left : List Placed
  pub end : Place

-- the token at the front, if there is one
abbrev pub front_token : List Placed → Option Token
front_token [] = None
front_token (first ∷ others) = Some first.token

-- where the token at the front begins, or else the end
abbrev pub front_place : List Placed → Place → Place
front_place [] end = end
front_place (first ∷ others) end = first.place

-- the tokens behind the one at the front
abbrev pub behind_front : List Placed → List Placed
behind_front [] = []
behind_front (first ∷ others) = others
