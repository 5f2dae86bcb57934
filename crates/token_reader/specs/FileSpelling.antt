-- How the tokens of a file are spelled: pieces put end to end.
use Rattle.std.specs.Prelude.{ℕ, ◌≡◌, ⊤, true, false, List, [], ◌∷◌, ◌++◌, Option, Some, None}
use Rattle.std.specs.List.{AllByRecursion}
use Rattle.std.specs.Option.{option_to_list, option_map}
use Rattle.token_reader.specs.declared.token.Place.{Place}
use Rattle.token_reader.specs.FileTokens.{at, tokens_of_file}
use Rattle.token_reader.specs.Places.{start, behind_bytes}
use Rattle.token_reader.specs.Signs.{is_separator, is_file_mark, is_file_word, is_line_feed, is_quote, is_hash, begins}
use Rattle.token_reader.specs.Tokens.{Token, Placed, Mark, Word, Quoted, Unclosed}

-- a line ends here: with a line feed, or with the file
abbrev pub IsLineEnd : List ℕ → Type 0
IsLineEnd [] = ⊤
IsLineEnd (b ∷ bs) = b ≡ 10

-- no line feed stands in the text
abbrev pub IsOnLine : List ℕ → Type 0
IsOnLine text = AllByRecursion (λ b. is_line_feed b ≡ false) text

-- no quotation mark stands in the text
abbrev pub HasNoQuote : List ℕ → Type 0
HasNoQuote text = AllByRecursion (λ b. is_quote b ≡ false) text

-- the bytes of a word: it begins with no `#` and no quotation mark, and ends where no further such byte stands
pub record IsFileWord (text rest : List ℕ) : Type 0 where
  pub all : AllByRecursion (λ b. is_file_word b ≡ true) text
  pub no_comment : begins is_hash text ≡ false
  pub not_quoted : begins is_quote text ≡ false
  pub ends : begins is_file_word rest ≡ false

-- bytes that make one piece where these others follow: a separator, a comment or a token
pub data IsFilePiece : List ℕ → List ℕ → Option Token → Type 0 where
  separator : (b : ℕ) (rest : List ℕ) → is_separator b ≡ true → IsFilePiece (b ∷ []) rest None
  comment : (text rest : List ℕ) → IsOnLine text → IsLineEnd rest → IsFilePiece (35 ∷ text) rest None
  mark : (b : ℕ) (rest : List ℕ) → is_file_mark b ≡ true → IsFilePiece (b ∷ []) rest (Some (Mark b))
  word : (b : ℕ) (bs rest : List ℕ) → IsFileWord (b ∷ bs) rest → IsFilePiece (b ∷ bs) rest (Some (Word (b ∷ bs)))
  quoted : (text rest : List ℕ) → IsOnLine text → HasNoQuote text
      → IsFilePiece (34 ∷ text ++ 34 ∷ []) rest (Some (Quoted text))
  unclosed : (text rest : List ℕ) → IsOnLine text → HasNoQuote text → IsLineEnd rest
      → IsFilePiece (34 ∷ text) rest (Some Unclosed)

-- the bytes from a place on spell these tokens
pub data SpellsFile : Place → List ℕ → List Placed → Type 0 where
  done : (place : Place) → SpellsFile place [] []
  more : (place : Place) (text rest : List ℕ) (token : Option Token) (tokens : List Placed)
      → IsFilePiece text rest token → SpellsFile (behind_bytes place text) rest tokens
      → SpellsFile place (text ++ rest) (option_to_list (option_map (at place) token) ++ tokens)

-- a file's tokens are spelled by its bytes
abbrev pub FileTokensAreSpelled : Type 0
FileTokensAreSpelled = (bytes : List ℕ) → SpellsFile start bytes (tokens_of_file bytes)

-- and no others are
abbrev pub SpelledFileTokensAreRead : Type 0
SpelledFileTokensAreRead =
    (bytes : List ℕ) (tokens : List Placed) → SpellsFile start bytes tokens → tokens ≡ tokens_of_file bytes
