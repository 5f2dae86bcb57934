-- The tokens of a line, and the number of each.
use Rattle.std.specs.Prelude.{ℕ, zero, suc, ◌+◌, List, [], ◌∷◌, ◌++◌, length, if◌then◌else◌}
use Rattle.std.specs.List.{take_while, prefix_len}
use Rattle.std.specs.Option.{option_to_list}
use Rattle.token_reader.specs.declared.token.Place.{Place}
use Rattle.token_reader.specs.Pieces.{Piece, nothing, one}
use Rattle.token_reader.specs.Signs.{is_blank, is_line_mark, is_line_word}
use Rattle.token_reader.specs.Tokens.{Token, Mark, Word, Placed}

-- what begins with a byte, and these behind it: a blank, a mark or a word
unfoldable pub line_piece : ℕ → List ℕ → Piece
line_piece b bs =
    if is_blank b then nothing 0
    else (if is_line_mark b then one (Mark b) 0
    else one (Word (b ∷ take_while is_line_word bs)) (prefix_len is_line_word bs))

-- the tokens of some bytes, of which so many at the front belong to what stands before
unfoldable pub line_tokens : ℕ → List ℕ → List Token
line_tokens before [] = []
line_tokens (suc before) (b ∷ bs) = line_tokens before bs
line_tokens zero (b ∷ bs) = option_to_list (line_piece b bs).token ++ line_tokens (line_piece b bs).further bs

-- where the n-th token of a line stands
abbrev pub nth : ℕ → Place
nth n = record { line = 1; column = n }

-- tokens with their numbers, of which the first is n
abbrev pub numbered : ℕ → List Token → List Placed
numbered n [] = []
numbered n (token ∷ tokens) = record { token = token; place = nth n } ∷ numbered (n + 1) tokens

-- the tokens of a line
abbrev pub tokens_of_line : List ℕ → List Placed
tokens_of_line line = numbered 1 (line_tokens 0 line)

-- the end of a line: its number is one more than that of its tokens
abbrev pub end_of_line : List ℕ → Place
end_of_line line = nth (length (line_tokens 0 line) + 1)
