-- How the tokens of a line are spelled: pieces put end to end.
use Rattle.std.specs.Prelude.{ℕ, ◌≡◌, true, false, List, [], ◌∷◌, ◌++◌, Option, Some, None}
use Rattle.std.specs.List.{AllByRecursion}
use Rattle.std.specs.Option.{option_to_list}
use Rattle.token_reader.specs.LineTokens.{line_tokens}
use Rattle.token_reader.specs.Signs.{is_blank, is_line_mark, is_line_word, begins}
use Rattle.token_reader.specs.Tokens.{Token, Mark, Word}

-- the bytes of a word, which ends where no further such byte stands
pub record IsLineWord (text rest : List ℕ) : Type 0 where
  pub all : AllByRecursion (λ b. is_line_word b ≡ true) text
  pub ends : begins is_line_word rest ≡ false

-- bytes that make one piece where these others follow: a blank or a token
pub data IsLinePiece : List ℕ → List ℕ → Option Token → Type 0 where
  blank : (b : ℕ) (rest : List ℕ) → is_blank b ≡ true → IsLinePiece (b ∷ []) rest None
  mark : (b : ℕ) (rest : List ℕ) → is_line_mark b ≡ true → IsLinePiece (b ∷ []) rest (Some (Mark b))
  word : (b : ℕ) (bs rest : List ℕ) → IsLineWord (b ∷ bs) rest → IsLinePiece (b ∷ bs) rest (Some (Word (b ∷ bs)))

-- the bytes spell these tokens
pub data SpellsLine : List ℕ → List Token → Type 0 where
  done : SpellsLine [] []
  more : (text rest : List ℕ) (token : Option Token) (tokens : List Token) → IsLinePiece text rest token
      → SpellsLine rest tokens → SpellsLine (text ++ rest) (option_to_list token ++ tokens)

-- a line's tokens are spelled by its bytes
abbrev pub LineTokensAreSpelled : Type 0
LineTokensAreSpelled = (line : List ℕ) → SpellsLine line (line_tokens 0 line)

-- and no others are
abbrev pub SpelledLineTokensAreRead : Type 0
SpelledLineTokensAreRead = (line : List ℕ) (tokens : List Token) → SpellsLine line tokens → tokens ≡ line_tokens 0 line
