-- Reading a line and spelling it agree.
use Rattle.std.proofs.Common.{ℕ, zero, suc, ◌≡◌, ◌<◌, Option, Some, None, ◌≤◌, Bool, true, false, not, ◌||◌, List, []}
use Rattle.std.proofs.Common.{◌∷◌, ◌++◌, length}
use Rattle.std.proofs.Common.{take, drop, arith, ap, sym, ◌∙◌, refl, subst, length-drop}
use Rattle.std.proofs.lemmas.Bool.{false≢true}
use Rattle.std.proofs.lemmas.List.{take-append-drop}
use Rattle.std.proofs.Math.Seq.{drop-append_seam, take-append_seam}
use Rattle.std.specs.List.{prefix_len}
use Rattle.std.specs.Option.{option_to_list}
use Rattle.std.specs.Prelude.{codes}
use Rattle.token_reader.specs.LineSpelling.{IsLineWord, IsLinePiece, SpellsLine, blank, mark, word, done, more}
use Rattle.token_reader.specs.LineTokens.{line_tokens}
use Rattle.token_reader.specs.Pieces.{nothing, one}
use Rattle.token_reader.specs.Signs.{is_blank, is_line_mark, is_line_word}
use Rattle.token_reader.specs.Tokens.{Token, Mark, Word}
use Rattle.token_reader.proofs.LineLemmas.{line_piece-blank, line_piece-mark, line_piece-word, line_tokens-piece}
use Rattle.token_reader.proofs.LineLemmas.{line_tokens-nil}
use Rattle.token_reader.proofs.SignLemmas.{apart}
use Rattle.token_reader.proofs.PrefixLemmas.{prefix_len-whole, prefix_passes, prefix_ends}

-- a byte of a word is no blank and no mark
word_byte : (b : ℕ) → is_line_word b ≡ true → (is_blank b ≡ false) × (is_line_mark b ≡ false)
word_byte b is = split (is_blank b) (is_line_mark b) is
  where
    split : (parts stands : Bool) → not (parts || stands) ≡ true → (parts ≡ false) × (stands ≡ false)
    split true stands is = absurd (false≢true is)
    split false true is = absurd (false≢true is)
    split false false is = (refl, refl)

-- the tokens of a line that begins with a word
line_tokens-word : (first : ℕ) (others rest : List ℕ) → IsLineWord (first ∷ others) rest
    → line_tokens 0 ((first ∷ others) ++ rest) ≡ Word (first ∷ others) ∷ line_tokens 0 rest
line_tokens-word first others rest is =
    let bytes = word_byte first is.all.0 in
    let count = prefix_len-whole is_line_word others rest is.all.1 is.ends in
    let piece = ap (λ n. one (Word (first ∷ take n (others ++ rest))) n) count
    ∙ ap (λ text. one (Word (first ∷ text)) (length others)) (take-append_seam others rest) in
    line_tokens-piece (first ∷ others ++ rest) (others ++ rest) rest first (one (Word (first ∷ others)) (length others))
    refl (sym piece ∙ line_piece-word first (others ++ rest) bytes.0 bytes.1) (sym (drop-append_seam others rest))

line_tokens-blank : (b : ℕ) (bs : List ℕ) → is_blank b ≡ true → line_tokens 0 (b ∷ bs) ≡ line_tokens 0 bs
line_tokens-blank b bs is =
    line_tokens-piece (b ∷ bs) bs bs b (nothing 0) refl (line_piece-blank b bs is) refl

line_tokens-mark : (b : ℕ) (bs : List ℕ) → is_line_mark b ≡ true
    → line_tokens 0 (b ∷ bs) ≡ Mark b ∷ line_tokens 0 bs
line_tokens-mark b bs is =
    line_tokens-piece (b ∷ bs) bs bs b (one (Mark b) 0) refl (line_piece-mark b bs
    (apart is_blank (codes "[](),") b refl is) is) refl

-- the tokens of a text that begins with a piece
line_tokens-text : {text rest : List ℕ} {token : Option Token} → IsLinePiece text rest token
    → line_tokens 0 (text ++ rest) ≡ option_to_list token ++ line_tokens 0 rest
line_tokens-text (blank b rest is) = line_tokens-blank b rest is
line_tokens-text (mark b rest is) = line_tokens-mark b rest is
line_tokens-text (word b bs rest is) = line_tokens-word b bs rest is

-- what is spelled is read
line_read : {line : List ℕ} {tokens : List Token} → SpellsLine line tokens → line_tokens 0 line ≡ tokens
line_read done = line_tokens-nil
line_read (more text rest token tokens is spelled) =
    line_tokens-text is ∙ ap (λ others. option_to_list token ++ others) (line_read spelled)

pub line_only : (line : List ℕ) (tokens : List Token) → SpellsLine line tokens → tokens ≡ line_tokens 0 line
line_only line tokens spelled = sym (line_read spelled)

-- each line that isn't empty begins with a piece
record Begun (bytes : List ℕ) : Type 0 where
  text : List ℕ
  rest : List ℕ
  token : Option Token
  is : IsLinePiece text rest token
  whole : text ++ rest ≡ bytes
  shorter : length rest < length bytes

begun_by : (b : ℕ) (bs : List ℕ) (parts stands : Bool) → is_blank b ≡ parts → is_line_mark b ≡ stands → Begun (b ∷ bs)
begun_by b bs true stands is_parts is_stands = record {
  text = b ∷ [];
  rest = bs;
  token = None;
  is = blank b bs is_parts;
  whole = refl;
  shorter = omega arith;
}
begun_by b bs false true is_parts is_stands = record {
  text = b ∷ [];
  rest = bs;
  token = Some (Mark b);
  is = mark b bs is_stands;
  whole = refl;
  shorter = omega arith;
}
begun_by b bs false false is_parts is_stands = let n = prefix_len is_line_word bs in record {
  text = b ∷ take n bs;
  rest = drop n bs;
  token = Some (Word (b ∷ take n bs));
  is = word b (take n bs) (drop n bs) (record {
    all = (ap not (ap (λ test. test || is_line_mark b) is_parts ∙ is_stands), prefix_passes is_line_word bs);
    ends = prefix_ends is_line_word bs;
  });
  whole = ap (λ more. b ∷ more) (take-append-drop n bs);
  shorter = omega (arith, length-drop n bs);
}

-- what is read is spelled
spelled_of : (n : ℕ) (line : List ℕ) → length line ≤ n → SpellsLine line (line_tokens 0 line)
spelled_of n [] short = subst (SpellsLine []) (sym line_tokens-nil) done
spelled_of zero (b ∷ bs) short = absurd (omega (arith, short))
spelled_of (suc n) (b ∷ bs) short =
    let begun = begun_by b bs (is_blank b) (is_line_mark b) refl refl in
    let others = spelled_of n begun.rest (omega (arith, short, begun.shorter)) in
    subst (λ line. SpellsLine line (line_tokens 0 line)) begun.whole
    (subst (SpellsLine (begun.text ++ begun.rest)) (sym (line_tokens-text begun.is))
    (more begun.text begun.rest begun.token (line_tokens 0 begun.rest) begun.is others))

pub line_found : (line : List ℕ) → SpellsLine line (line_tokens 0 line)
line_found line = spelled_of (length line) line (omega arith)
