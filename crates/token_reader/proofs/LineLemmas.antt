-- The tokens of a line, a piece at a time.
use Rattle.std.proofs.Common.{ℕ, zero, suc, ◌≡◌, ◌+◌, ◌<◌, ◌≤◌, Bool, true, false, cond, List, [], ◌∷◌, ◌++◌, length}
use Rattle.std.proofs.Common.{take, drop, Option, Some, None, arith, ap, sym, ◌∙◌, refl, add-one, length-append}
use Rattle.std.proofs.lemmas.List.{nil_from_length}
use Rattle.std.specs.List.{take_while, prefix_len}
use Rattle.std.specs.Option.{option_map, option_to_list, is_some}
use Rattle.token_reader.specs.declared.token.Token.{Token as Given}
use Rattle.token_reader.specs.LineReading.{line_left, unread_line, IsLineReading}
use Rattle.token_reader.specs.LineTokens.{line_piece, line_tokens, numbered, nth}
use Rattle.token_reader.specs.Pieces.{Piece, nothing, one}
use Rattle.token_reader.specs.Signs.{is_blank, is_line_mark, is_line_word}
use Rattle.token_reader.specs.Tokens.{Token, Mark, Word, token_told, front_token, front_place, behind_front}
use Rattle.token_reader.proofs.FrontLemmas.{length-option_to_list, there}

-- a piece, by what its first byte is
abbrev piece_by : Bool → Bool → ℕ → List ℕ → Piece
piece_by blank mark b bs =
    cond blank (nothing 0)
    (cond mark (one (Mark b) 0) (one (Word (b ∷ take_while is_line_word bs)) (prefix_len is_line_word bs)))

line_piece-by : (b : ℕ) (bs : List ℕ) → line_piece b bs ≡ piece_by (is_blank b) (is_line_mark b) b bs
unfolding line_piece
line_piece-by b bs = refl

pub line_piece-blank : (b : ℕ) (bs : List ℕ) → is_blank b ≡ true → nothing 0 ≡ line_piece b bs
line_piece-blank b bs blank = sym (line_piece-by b bs ∙ ap (λ test. piece_by test (is_line_mark b) b bs) blank)

pub line_piece-mark : (b : ℕ) (bs : List ℕ) → is_blank b ≡ false → is_line_mark b ≡ true
    → one (Mark b) 0 ≡ line_piece b bs
line_piece-mark b bs blank mark =
    sym (line_piece-by b bs ∙ ap (λ test. piece_by test (is_line_mark b) b bs) blank
    ∙ ap (λ test. piece_by false test b bs) mark)

pub line_piece-word : (b : ℕ) (bs : List ℕ) → is_blank b ≡ false → is_line_mark b ≡ false
    → one (Word (b ∷ take_while is_line_word bs)) (prefix_len is_line_word bs) ≡ line_piece b bs
line_piece-word b bs blank mark =
    sym (line_piece-by b bs ∙ ap (λ test. piece_by test (is_line_mark b) b bs) blank
    ∙ ap (λ test. piece_by false test b bs) mark)

-- the same in a text that is cut behind the word
pub line_piece-cut : (text bs : List ℕ) (b n : ℕ) → text ≡ b ∷ bs → is_blank b ≡ false → is_line_mark b ≡ false
    → n ≡ prefix_len is_line_word bs → one (Word (take (n + 1) text)) n ≡ line_piece b bs
line_piece-cut text bs b n is blank mark count =
    ap (λ whole. one (Word (take (n + 1) whole)) n) is
    ∙ ap (λ more. one (Word (take more (b ∷ bs))) n) (add-one n)
    ∙ ap (λ many. one (Word (b ∷ take many bs)) many) count
    ∙ line_piece-word b bs blank mark

-- what belongs to an earlier piece is passed over
line_tokens-behind : (n : ℕ) (bs : List ℕ) → line_tokens n bs ≡ line_tokens 0 (drop n bs)
unfolding line_tokens
line_tokens-behind zero bs = refl
line_tokens-behind (suc n) [] = refl
line_tokens-behind (suc n) (b ∷ bs) = line_tokens-behind n bs

-- the tokens of the piece at the front, and those behind it
pub line_tokens-piece : (text bs rest : List ℕ) (b : ℕ) (piece : Piece) → text ≡ b ∷ bs → piece ≡ line_piece b bs
    → rest ≡ drop piece.further bs → line_tokens 0 text ≡ option_to_list piece.token ++ line_tokens 0 rest
unfolding line_tokens
line_tokens-piece text bs rest b piece begins is left =
    ap (line_tokens 0) begins
    ∙ ap (λ (p : Piece). option_to_list p.token ++ line_tokens p.further bs) (sym is)
    ∙ ap (λ tokens. option_to_list piece.token ++ tokens)
    (line_tokens-behind piece.further bs ∙ ap (line_tokens 0) (sym left))

pub line_tokens-nil : line_tokens 0 [] ≡ []
unfolding line_tokens
line_tokens-nil = refl

-- each token has a byte of its own
pub length-line_tokens : (n : ℕ) (bs : List ℕ) → length (line_tokens n bs) ≤ length bs
unfolding line_tokens
length-line_tokens zero [] = omega arith
length-line_tokens (suc n) [] = omega arith
length-line_tokens (suc n) (b ∷ bs) = omega (arith, length-line_tokens n bs)
length-line_tokens zero (b ∷ bs) =
    let piece = line_piece b bs in
    omega (
      arith,
      length-append (option_to_list piece.token) (line_tokens piece.further bs),
      length-option_to_list piece.token,
      length-line_tokens piece.further bs,
    )

pub length-line_left : (front : Option Given) (rest : List ℕ)
    → length (line_left front rest) ≤ length (option_to_list front) + length rest
length-line_left None rest = omega (arith, length-line_tokens 0 rest)
length-line_left (Some token) rest = omega (arith, length-line_tokens 0 rest)

pub length-numbered : (n : ℕ) (tokens : List Token) → length (numbered n tokens) ≡ length tokens
length-numbered n [] = refl
length-numbered n (token ∷ tokens) = ap suc (length-numbered (n + 1) tokens)

nothing_left : (rest : List ℕ) → rest ≡ [] → line_tokens 0 rest ≡ []
nothing_left rest ended = ap (line_tokens 0) ended ∙ line_tokens-nil

pub front_of : (front : Option Given) (number : ℕ) (rest : List ℕ) → IsLineReading front number rest
    → option_map token_told front ≡ front_token (unread_line front number rest).left
front_of None number rest is = sym (ap (λ tokens. front_token (numbered number tokens)) (nothing_left rest is.ended))
front_of (Some token) number rest is = refl

pub place_of : (front : Option Given) (number : ℕ) (rest : List ℕ) → IsLineReading front number rest
    → nth number ≡ front_place (unread_line front number rest).left (unread_line front number rest).end
place_of None number rest is =
    sym (ap (λ tokens. front_place (numbered number tokens) (nth (number + length tokens))) (nothing_left rest is.ended)
    ∙ ap nth (omega arith))
place_of (Some token) number rest is = refl

-- a line whose front token was cut is read as it should
pub reads_on : (token : Option Given) (number : ℕ) (rest : List ℕ) → is_some token ≡ true → 0 < number
    → number + 1 + length rest ≤ 65536 → IsLineReading token number rest
reads_on token number rest some from_one few = record {
  ended = there token (rest ≡ []) some;
  from_one = from_one;
  few = omega (arith, few, length-option_to_list token);
}

pub reads_out : (number : ℕ) (rest : List ℕ) → length rest ≡ 0 → 0 < number → number ≤ 65536
    → IsLineReading None number rest
reads_out number rest out from_one few = record {
  ended = nil_from_length rest out;
  from_one = from_one;
  few = omega (arith, few, out);
}

-- at the end nothing is left behind the front
pub stays : (front : Option Given) (number : ℕ) (rest : List ℕ) → IsLineReading front number rest
    → is_some front ≡ false
    → (unread_line front number rest).left ≡ behind_front (unread_line front number rest).left
stays None number rest is none =
    let nothing_more = ap (numbered number) (nothing_left rest is.ended) in
    nothing_more ∙ sym (ap behind_front nothing_more)
stays (Some token) number rest is none = absurd (cc)
