-- The tokens of a file, a piece at a time.
use Rattle.std.proofs.Common.{ℕ, zero, suc, ◌≡◌, ◌+◌, ◌≤◌, Bool, true, false, cond, List, [], ◌∷◌, ◌++◌}
use Rattle.std.proofs.Common.{length, take, drop, Option, Some, None, arith, ap, sym, ◌∙◌, refl, subst, add-one}
use Rattle.std.proofs.Common.{length-append, length-drop}
use Rattle.std.proofs.lemmas.Bool.{false≢true, eqb-true}
use Rattle.std.specs.List.{take_while, prefix_len, position_or_len}
use Rattle.std.specs.Option.{option_map, option_to_list}
use Rattle.token_reader.specs.declared.token.Place.{Place}
use Rattle.token_reader.specs.declared.token.Token.{Token as Given}
use Rattle.token_reader.specs.FileReading.{file_left, unread_file, IsFileReading}
use Rattle.token_reader.specs.FileTokens.{quoted_piece, file_piece, file_tokens, at}
use Rattle.token_reader.specs.Pieces.{Piece, nothing, one}
use Rattle.token_reader.specs.Places.{along, behind_byte, behind_bytes, IsInFile}
use Rattle.token_reader.specs.Signs.{is_separator, is_file_mark, is_file_word, is_line_feed, is_quote, is_hash}
use Rattle.token_reader.specs.Tokens.{Mark, Word, token_told, front_token, front_place, behind_front}
use Rattle.token_reader.proofs.FrontLemmas.{length-option_to_list}
use Rattle.token_reader.proofs.PlaceLemmas.{OnLine, on_line, along-zero, along-byte, behind_bytes-along, in_file-behind}
use Rattle.token_reader.proofs.QuoteLemmas.{on_line-feed, on_line-quoted}

-- a piece, by what its first byte is
abbrev piece_by : Bool → Bool → Bool → Bool → ℕ → List ℕ → Piece
piece_by separator hash mark quote b bs =
    cond separator (nothing 0)
    (cond hash (nothing (position_or_len is_line_feed bs))
    (cond mark (one (Mark b) 0)
    (cond quote (quoted_piece bs) (one (Word (b ∷ take_while is_file_word bs)) (prefix_len is_file_word bs)))))

file_piece-by : (b : ℕ) (bs : List ℕ)
    → file_piece b bs ≡ piece_by (is_separator b) (is_hash b) (is_file_mark b) (is_quote b) b bs
unfolding file_piece
file_piece-by b bs = refl

pub file_piece-separator : (b : ℕ) (bs : List ℕ) → is_separator b ≡ true → nothing 0 ≡ file_piece b bs
file_piece-separator b bs separator =
    sym (file_piece-by b bs
    ∙ ap (λ test. piece_by test (is_hash b) (is_file_mark b) (is_quote b) b bs) separator)

pub file_piece-hash : (b : ℕ) (bs : List ℕ) (n : ℕ) → is_separator b ≡ false → b ≡ 35
    → n ≡ position_or_len is_line_feed bs → nothing n ≡ file_piece b bs
file_piece-hash b bs n separator hash count =
    ap nothing count
    ∙ sym (file_piece-by b bs
    ∙ ap (λ test. piece_by test (is_hash b) (is_file_mark b) (is_quote b) b bs) separator
    ∙ ap (λ test. piece_by false test (is_file_mark b) (is_quote b) b bs) (ap is_hash hash))

pub file_piece-mark : (b : ℕ) (bs : List ℕ) → is_separator b ≡ false → is_hash b ≡ false → is_file_mark b ≡ true
    → one (Mark b) 0 ≡ file_piece b bs
file_piece-mark b bs separator hash mark =
    sym (file_piece-by b bs
    ∙ ap (λ test. piece_by test (is_hash b) (is_file_mark b) (is_quote b) b bs) separator
    ∙ ap (λ test. piece_by false test (is_file_mark b) (is_quote b) b bs) hash
    ∙ ap (λ test. piece_by false false test (is_quote b) b bs) mark)

file_piece-other : (b : ℕ) (bs : List ℕ) → is_separator b ≡ false → is_hash b ≡ false → is_file_mark b ≡ false
    → (quote : Bool) → is_quote b ≡ quote → file_piece b bs ≡ piece_by false false false quote b bs
file_piece-other b bs separator hash mark quote is =
    file_piece-by b bs
    ∙ ap (λ test. piece_by test (is_hash b) (is_file_mark b) (is_quote b) b bs) separator
    ∙ ap (λ test. piece_by false test (is_file_mark b) (is_quote b) b bs) hash
    ∙ ap (λ test. piece_by false false test (is_quote b) b bs) mark
    ∙ ap (λ test. piece_by false false false test b bs) is

pub file_piece-quote : (b : ℕ) (bs : List ℕ) → is_separator b ≡ false → is_hash b ≡ false → is_file_mark b ≡ false
    → b ≡ 34 → quoted_piece bs ≡ file_piece b bs
file_piece-quote b bs separator hash mark quote =
    sym (file_piece-other b bs separator hash mark true (ap is_quote quote))

pub file_piece-word : (b : ℕ) (bs : List ℕ) → is_separator b ≡ false → is_hash b ≡ false → is_file_mark b ≡ false
    → is_quote b ≡ false
    → one (Word (b ∷ take_while is_file_word bs)) (prefix_len is_file_word bs) ≡ file_piece b bs
file_piece-word b bs separator hash mark quote = sym (file_piece-other b bs separator hash mark false quote)

-- the same in a text that is cut behind the word
pub file_piece-cut : (text bs : List ℕ) (b n : ℕ) → text ≡ b ∷ bs → is_separator b ≡ false → is_hash b ≡ false
    → is_file_mark b ≡ false → is_quote b ≡ false → n ≡ prefix_len is_file_word bs
    → one (Word (take (n + 1) text)) n ≡ file_piece b bs
file_piece-cut text bs b n is separator hash mark quote count =
    ap (λ whole. one (Word (take (n + 1) whole)) n) is
    ∙ ap (λ more. one (Word (take more (b ∷ bs))) n) (add-one n)
    ∙ ap (λ many. one (Word (b ∷ take many bs)) many) count
    ∙ file_piece-word b bs separator hash mark quote

-- no byte of a word ends a line
pub word_on_line : (b : ℕ) → is_file_word b ≡ true → is_line_feed b ≡ false
word_on_line b word = split (is_line_feed b) refl
  where
    split : (test : Bool) → is_line_feed b ≡ test → is_line_feed b ≡ false
    split true feed = absurd (false≢true (ap is_file_word (sym (eqb-true b 10 feed)) ∙ word))
    split false feed = feed

-- a piece ends on the line where it begins
on_line-piece : (b : ℕ) (bs : List ℕ) → OnLine (file_piece b bs).further bs
on_line-piece b bs =
    subst (λ (piece : Piece). OnLine piece.further bs) (sym (file_piece-by b bs))
    (split (is_separator b) (is_hash b) (is_file_mark b) (is_quote b))
  where
    split : (separator hash mark quote : Bool) → OnLine (piece_by separator hash mark quote b bs).further bs
    split true hash mark quote = tt
    split false true mark quote = on_line-feed bs
    split false false true quote = tt
    split false false false true = on_line-quoted bs
    split false false false false = on_line is_file_word word_on_line bs

-- what belongs to an earlier piece is passed over
file_tokens-along : (n : ℕ) (place : Place) (bs : List ℕ) → OnLine n bs
    → file_tokens place n bs ≡ file_tokens (along place n) 0 (drop n bs)
unfolding file_tokens
file_tokens-along zero place bs on_line = ap (λ (p : Place). file_tokens p 0 bs) (sym (along-zero place))
file_tokens-along (suc n) place [] on_line = refl
file_tokens-along (suc n) place (b ∷ bs) on_line =
    file_tokens-along n (behind_byte place b) bs on_line.1
    ∙ ap (λ (p : Place). file_tokens p 0 (drop n bs)) (along-byte place b n on_line.0)

-- a text that was cut behind the piece that it begins with
pub record IsCut (text : List ℕ) (place : Place) (piece : Piece) (rest : List ℕ) (behind : Place) : Type 0 where
  pub first : ℕ
  pub others : List ℕ
  pub text_is : text ≡ first ∷ others
  pub piece_is : piece ≡ file_piece first others
  pub within : piece.further ≤ length others
  pub rest_is : rest ≡ drop piece.further others
  pub behind_is : behind ≡ along (behind_byte place first) piece.further

further_on_line : (text : List ℕ) (place : Place) (piece : Piece) (rest : List ℕ) (behind : Place)
    → (cut : IsCut text place piece rest behind) → OnLine piece.further cut.others
further_on_line text place piece rest behind cut =
    subst (λ (p : Piece). OnLine p.further cut.others) (sym cut.piece_is) (on_line-piece cut.first cut.others)

-- the tokens of the piece at the front, and those behind it
pub file_tokens-step : (place : Place) (first : ℕ) (others : List ℕ) (piece : Piece) → piece ≡ file_piece first others
    → file_tokens place 0 (first ∷ others)
    ≡ option_to_list (option_map (at place) piece.token)
    ++ file_tokens (along (behind_byte place first) piece.further) 0 (drop piece.further others)
unfolding file_tokens
file_tokens-step place first others piece is =
    let on_line = subst (λ (p : Piece). OnLine p.further others) (sym is) (on_line-piece first others) in
    ap (λ (p : Piece). option_to_list (option_map (at place) p.token)
    ++ file_tokens (behind_byte place first) p.further others) (sym is)
    ∙ ap (λ tokens. option_to_list (option_map (at place) piece.token) ++ tokens)
    (file_tokens-along piece.further (behind_byte place first) others on_line)

pub file_tokens-piece : (text : List ℕ) (place : Place) (piece : Piece) (rest : List ℕ) (behind : Place)
    → IsCut text place piece rest behind
    → file_tokens place 0 text ≡ option_to_list (option_map (at place) piece.token) ++ file_tokens behind 0 rest
file_tokens-piece text place piece rest behind cut =
    ap (file_tokens place 0) cut.text_is
    ∙ file_tokens-step place cut.first cut.others piece cut.piece_is
    ∙ ap (λ tokens. option_to_list (option_map (at place) piece.token) ++ tokens)
    (ap (λ (p : Place). file_tokens p 0 (drop piece.further cut.others)) (sym cut.behind_is)
    ∙ ap (file_tokens behind 0) (sym cut.rest_is))

pub behind_bytes-piece : (text : List ℕ) (place : Place) (piece : Piece) (rest : List ℕ) (behind : Place)
    → IsCut text place piece rest behind → behind_bytes place text ≡ behind_bytes behind rest
behind_bytes-piece text place piece rest behind cut =
    let next = behind_byte place cut.first in
    ap (behind_bytes place) cut.text_is
    ∙ behind_bytes-along piece.further next cut.others cut.within (further_on_line text place piece rest behind cut)
    ∙ ap (λ (p : Place). behind_bytes p (drop piece.further cut.others)) (sym cut.behind_is)
    ∙ ap (behind_bytes behind) (sym cut.rest_is)

pub in_file-piece : (text : List ℕ) (place : Place) (piece : Piece) (rest : List ℕ) (behind : Place)
    → IsCut text place piece rest behind → IsInFile place (length text) → IsInFile behind (length rest)
in_file-piece text place piece rest behind cut is =
    let whole : length text ≡ 1 + piece.further + length rest =
    omega (arith, ap length cut.text_is, ap length cut.rest_is, length-drop piece.further cut.others, cut.within) in
    subst (λ (p : Place). IsInFile p (length rest)) (sym cut.behind_is)
    (in_file-behind place cut.first piece.further (length rest) (subst (IsInFile place) whole is))

pub file_tokens-nil : (place : Place) → file_tokens place 0 [] ≡ []
unfolding file_tokens
file_tokens-nil place = refl

-- each token has a byte of its own
pub length-file_tokens : (place : Place) (n : ℕ) (bs : List ℕ) → length (file_tokens place n bs) ≤ length bs
unfolding file_tokens
length-file_tokens place zero [] = omega arith
length-file_tokens place (suc n) [] = omega arith
length-file_tokens place (suc n) (b ∷ bs) = omega (arith, length-file_tokens (behind_byte place b) n bs)
length-file_tokens place zero (b ∷ bs) =
    let piece = file_piece b bs in
    let next = behind_byte place b in
    let here = option_map (at place) piece.token in
    omega (
      arith,
      length-append (option_to_list here) (file_tokens next piece.further bs),
      length-option_to_list here,
      length-file_tokens next piece.further bs,
    )

nothing_left : (behind : Place) (rest : List ℕ) → rest ≡ [] → file_tokens behind 0 rest ≡ []
nothing_left behind rest ended = ap (file_tokens behind 0) ended ∙ file_tokens-nil behind

pub length-file_left : (front : Option Given) (place : Place) (rest : List ℕ) (behind : Place)
    → length (file_left front place rest behind) ≤ length (option_to_list front) + length rest
length-file_left None place rest behind = omega (arith, length-file_tokens behind 0 rest)
length-file_left (Some token) place rest behind = omega (arith, length-file_tokens behind 0 rest)

pub front_of : (front : Option Given) (place : Place) (rest : List ℕ) (behind : Place)
    → IsFileReading front place rest behind
    → option_map token_told front ≡ front_token (unread_file front place rest behind).left
front_of None place rest behind is = sym (ap front_token (nothing_left behind rest is.ended.0))
front_of (Some token) place rest behind is = refl

pub place_of : (front : Option Given) (place : Place) (rest : List ℕ) (behind : Place)
    → IsFileReading front place rest behind
    → place ≡ front_place (unread_file front place rest behind).left (unread_file front place rest behind).end
place_of None place rest behind is =
    is.ended.1
    ∙ sym (ap (λ tokens. front_place tokens (behind_bytes behind rest)) (nothing_left behind rest is.ended.0)
    ∙ ap (behind_bytes behind) is.ended.0)
place_of (Some token) place rest behind is = refl

-- what is left behind the front, also where there is no front
pub goes_on : (front : Option Given) (place : Place) (rest : List ℕ) (behind : Place)
    → IsFileReading front place rest behind
    → file_tokens behind 0 rest ≡ behind_front (unread_file front place rest behind).left
goes_on None place rest behind is =
    let none = nothing_left behind rest is.ended.0 in
    none ∙ sym (ap behind_front none)
goes_on (Some token) place rest behind is = refl
