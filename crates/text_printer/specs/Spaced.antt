-- Tokens of a line as a text: one space between two of them.
use Rattle.std.specs.Prelude.{ℕ, ◌≡◌, List, [], ◌∷◌, ◌++◌}
use Rattle.std.specs.List.{flat_map}
use Rattle.token_reader.specs.Tokens.{Token, Mark, Word, Quoted, Unclosed}

-- the bytes of a token of a line: a sign, or those of a word
abbrev pub token_text : Token → List ℕ
token_text (Mark sign) = sign ∷ []
token_text (Word bytes) = bytes
token_text (Quoted bytes) = bytes
token_text Unclosed = []

-- a token behind a space
abbrev pub led : Token → List ℕ
led token = 32 ∷ token_text token

-- each token behind a space
abbrev pub all_led : List Token → List ℕ
all_led tokens = flat_map led tokens

-- the first token, and each further one behind a space
abbrev pub spaced : List Token → List ℕ
spaced [] = []
spaced (first ∷ others) = token_text first ++ all_led others

-- a text goes on with these tokens, each behind a space
abbrev pub GoesOn : List Token → List ℕ → List ℕ → Type 0
GoesOn tokens old new = new ≡ old ++ all_led tokens
