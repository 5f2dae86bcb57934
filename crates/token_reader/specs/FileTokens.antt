-- The tokens of a file, and the line and the byte at which each begins.
use Rattle.std.specs.Prelude.{ℕ, zero, suc, ◌+◌, List, [], ◌∷◌, ◌++◌, if◌then◌else◌}
use Rattle.std.specs.List.{list_any, take_while, prefix_len, before_first, position_or_len}
use Rattle.std.specs.Option.{option_to_list, option_map}
use Rattle.token_reader.specs.declared.token.Place.{Place}
use Rattle.token_reader.specs.Pieces.{Piece, nothing, one}
use Rattle.token_reader.specs.Places.{start, behind_byte, behind_bytes}
use Rattle.token_reader.specs.Signs.{is_separator, is_file_mark, is_file_word, is_line_feed, is_quote, is_hash}
use Rattle.token_reader.specs.Tokens.{Token, Mark, Word, Quoted, Unclosed, Placed}

-- what a quotation mark begins, with these bytes behind it: a quoted word where another one stands on the line
unfoldable pub quoted_piece : List ℕ → Piece
quoted_piece bs =
    if list_any is_quote (before_first is_line_feed bs)
    then one (Quoted (before_first is_quote bs)) (position_or_len is_quote bs + 1)
    else one Unclosed (position_or_len is_line_feed bs)

-- what begins with a byte, and these behind it: a separator, a comment, a mark, a quoted word or a word
unfoldable pub file_piece : ℕ → List ℕ → Piece
file_piece b bs =
    if is_separator b then nothing 0
    else (if is_hash b then nothing (position_or_len is_line_feed bs)
    else (if is_file_mark b then one (Mark b) 0
    else (if is_quote b then quoted_piece bs
    else one (Word (b ∷ take_while is_file_word bs)) (prefix_len is_file_word bs))))

-- a token at a place
abbrev pub at : Place → Token → Placed
at place token = record { token = token; place = place }

-- the tokens of some bytes, of which so many at the front belong to what stands before
unfoldable pub file_tokens : Place → ℕ → List ℕ → List Placed
file_tokens place before [] = []
file_tokens place (suc before) (b ∷ bs) = file_tokens (behind_byte place b) before bs
file_tokens place zero (b ∷ bs) =
    option_to_list (option_map (at place) (file_piece b bs).token)
    ++ file_tokens (behind_byte place b) (file_piece b bs).further bs

-- the tokens of a file
abbrev pub tokens_of_file : List ℕ → List Placed
tokens_of_file bytes = file_tokens start 0 bytes

-- the end of a file: the place behind its last byte
abbrev pub end_of_file : List ℕ → Place
end_of_file bytes = behind_bytes start bytes
