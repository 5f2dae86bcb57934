-- Reading a file and spelling it agree.
use Rattle.std.proofs.Common.{ℕ, zero, suc, ◌≡◌, ◌+◌, ◌<◌, ◌≤◌, Bool, true, false, not, ◌||◌, List, [], ◌∷◌, ◌++◌}
use Rattle.std.proofs.Common.{length}
use Rattle.std.proofs.Common.{take, drop, Option, Some, None, arith, ap, sym, ◌∙◌, refl, subst, length-append}
use Rattle.std.proofs.Common.{length-drop, append_assoc}
use Rattle.std.proofs.lemmas.Bool.{false≢true, eqb-true}
use Rattle.std.proofs.lemmas.List.{take-append-drop}
use Rattle.std.proofs.Math.Seq.{drop-append_seam, take-append_seam}
use Rattle.std.specs.List.{AllByRecursion, prefix_len, position_or_len}
use Rattle.std.specs.Option.{option_map, option_to_list}
use Rattle.std.specs.Prelude.{codes}
use Rattle.token_reader.specs.declared.token.Place.{Place}
use Rattle.token_reader.specs.FileSpelling.{IsLineEnd, IsOnLine, HasNoQuote, IsFileWord, IsFilePiece, SpellsFile}
use Rattle.token_reader.specs.FileSpelling.{separator, comment, mark, word, quoted, unclosed, done, more}
use Rattle.token_reader.specs.FileTokens.{file_piece, file_tokens, at}
use Rattle.token_reader.specs.Pieces.{Piece, nothing, one}
use Rattle.token_reader.specs.Places.{start, along, behind_byte, behind_bytes}
use Rattle.token_reader.specs.Signs.{is_separator, is_file_mark, is_file_word, is_line_feed, is_quote, is_hash}
use Rattle.token_reader.specs.Signs.{is_quotable}
use Rattle.token_reader.specs.Signs.{begins}
use Rattle.token_reader.specs.Tokens.{Token, Mark, Word, Quoted, Unclosed, Placed}
use Rattle.token_reader.proofs.FileLemmas.{file_piece-separator, file_piece-hash, file_piece-mark, file_piece-quote}
use Rattle.token_reader.proofs.FileLemmas.{file_piece-word, file_tokens-step, file_tokens-nil, word_on_line}
use Rattle.token_reader.proofs.PlaceLemmas.{behind_bytes-line}
use Rattle.token_reader.proofs.PrefixLemmas.{prefix_len-whole, prefix_passes, prefix_ends}
use Rattle.token_reader.proofs.QuoteLemmas.{quoted_piece-closed, quoted_piece-open}
use Rattle.token_reader.proofs.SignLemmas.{apart, unlike}

abbrev not_feed : ℕ → Bool
not_feed b = not (is_line_feed b)

-- a line's end, as a test and as a fact
end_is : (rest : List ℕ) → begins not_feed rest ≡ false → IsLineEnd rest
end_is [] ends = tt
end_is (b ∷ bs) ends = split (is_line_feed b) refl ends
  where
    split : (test : Bool) → is_line_feed b ≡ test → not test ≡ false → b ≡ 10
    split true is ends = eqb-true b 10 is
    split false is ends = absurd (false≢true (sym ends))

end_begins : (p : ℕ → Bool) → p 10 ≡ false → (rest : List ℕ) → IsLineEnd rest → begins p rest ≡ false
end_begins p feed [] ends = refl
end_begins p feed (b ∷ bs) ends = ap p ends ∙ feed

end_of : (rest : List ℕ) → begins is_quotable rest ≡ false → begins is_quote rest ≡ false → IsLineEnd rest
end_of [] no_inner no_quote = tt
end_of (b ∷ bs) no_inner no_quote = split (is_quote b) (is_line_feed b) refl no_quote no_inner
  where
    split : (quote feed : Bool) → is_line_feed b ≡ feed → quote ≡ false → not (quote || feed) ≡ false → b ≡ 10
    split true feed is no_quote no_inner = absurd (false≢true (sym no_quote))
    split false true is no_quote no_inner = eqb-true b 10 is
    split false false is no_quote no_inner = absurd (false≢true (sym no_inner))

all_from : (P Q : ℕ → Type 0) → ((b : ℕ) → P b → Q b) → (bs : List ℕ) → AllByRecursion P bs → AllByRecursion Q bs
all_from P Q follows [] all = tt
all_from P Q follows (b ∷ bs) all = (follows b all.0, all_from P Q follows bs all.1)

-- a byte that two tests fail, as one test
neither : (left right : Bool) → not (left || right) ≡ true → (left ≡ false) × (right ≡ false)
neither true right is = absurd (false≢true is)
neither false true is = absurd (false≢true is)
neither false false is = (refl, refl)

-- what a quoted word can hold: no quotation mark and no line feed
inner : (text : List ℕ) → IsOnLine text → HasNoQuote text → AllByRecursion (λ b. is_quotable b ≡ true) text
inner [] on_line no_quote = tt
inner (b ∷ bs) on_line no_quote =
    (ap not (ap (λ test. test || is_line_feed b) no_quote.0 ∙ on_line.0), inner bs on_line.1 no_quote.1)

inner_on_line : (text : List ℕ) → AllByRecursion (λ b. is_quotable b ≡ true) text → IsOnLine text
inner_on_line text all =
    all_from (λ b. is_quotable b ≡ true) (λ b. is_line_feed b ≡ false)
    (λ b is. (neither (is_quote b) (is_line_feed b) is).1) text all

inner_no_quote : (text : List ℕ) → AllByRecursion (λ b. is_quotable b ≡ true) text → HasNoQuote text
inner_no_quote text all =
    all_from (λ b. is_quotable b ≡ true) (λ b. is_quote b ≡ false)
    (λ b is. (neither (is_quote b) (is_line_feed b) is).0)
    text all

-- the tokens of a text that begins with a piece
tokens_with : (place : Place) (first : ℕ) (text rest : List ℕ) (piece : Piece) → IsOnLine text
    → length text ≡ piece.further → piece ≡ file_piece first (text ++ rest)
    → file_tokens place 0 (first ∷ text ++ rest)
    ≡ option_to_list (option_map (at place) piece.token) ++ file_tokens (behind_bytes place (first ∷ text)) 0 rest
tokens_with place first text rest piece on_line len is =
    let next = behind_byte place first in
    file_tokens-step place first (text ++ rest) piece is
    ∙ ap (λ n. option_to_list (option_map (at place) piece.token)
    ++ file_tokens (along next n) 0 (drop n (text ++ rest)))
    (sym len)
    ∙ ap (λ (p : Place). option_to_list (option_map (at place) piece.token)
    ++ file_tokens p 0 (drop (length text) (text ++ rest))) (sym (behind_bytes-line next text on_line))
    ∙ ap (λ bytes. option_to_list (option_map (at place) piece.token)
    ++ file_tokens (behind_bytes next text) 0 bytes) (drop-append_seam text rest)

tokens-comment : (place : Place) (text rest : List ℕ) → IsOnLine text → IsLineEnd rest
    → file_tokens place 0 (35 ∷ text ++ rest) ≡ file_tokens (behind_bytes place (35 ∷ text)) 0 rest
tokens-comment place text rest on_line ends =
    let all = all_from (λ b. is_line_feed b ≡ false) (λ b. not_feed b ≡ true) (λ b other. ap not other) text on_line in
    let count = prefix_len-whole not_feed text rest all (end_begins not_feed refl rest ends) in
    tokens_with place 35 text rest (nothing (length text)) on_line refl
    (file_piece-hash 35 (text ++ rest) (length text) refl refl (sym count))

tokens-mark : (place : Place) (b : ℕ) (rest : List ℕ) → is_file_mark b ≡ true
    → file_tokens place 0 (b ∷ rest) ≡ at place (Mark b) ∷ file_tokens (behind_byte place b) 0 rest
tokens-mark place b rest is =
    tokens_with place b [] rest (one (Mark b) 0) tt refl
    (file_piece-mark b rest (apart is_separator (codes "{}[](),;") b refl is)
    (apart is_hash (codes "{}[](),;") b refl is)
    is)

tokens-word : (place : Place) (b : ℕ) (bs rest : List ℕ) → IsFileWord (b ∷ bs) rest
    → file_tokens place 0 (b ∷ bs ++ rest)
    ≡ at place (Word (b ∷ bs)) ∷ file_tokens (behind_bytes place (b ∷ bs)) 0 rest
tokens-word place b bs rest is =
    let tests = neither (is_separator b) (is_file_mark b) is.all.0 in
    let count = prefix_len-whole is_file_word bs rest is.all.1 is.ends in
    let piece = ap (λ n. one (Word (b ∷ take n (bs ++ rest))) n) count
    ∙ ap (λ text. one (Word (b ∷ text)) (length bs)) (take-append_seam bs rest) in
    let on_line = all_from (λ x. is_file_word x ≡ true) (λ x. is_line_feed x ≡ false) word_on_line bs is.all.1 in
    tokens_with place b bs rest (one (Word (b ∷ bs)) (length bs)) on_line refl
    (sym piece ∙ file_piece-word b (bs ++ rest) tests.0 is.no_comment tests.1 is.not_quoted)

on_line-append : (text : List ℕ) → IsOnLine text → IsOnLine (text ++ 34 ∷ [])
on_line-append [] on_line = (refl, tt)
on_line-append (b ∷ bs) on_line = (on_line.0, on_line-append bs on_line.1)

length-quoted : (text : List ℕ) → length (text ++ 34 ∷ []) ≡ length text + 1
length-quoted text = omega (arith, length-append text (34 ∷ []))

tokens-quoted : (place : Place) (text rest : List ℕ) → IsOnLine text → HasNoQuote text
    → file_tokens place 0 ((34 ∷ text ++ 34 ∷ []) ++ rest)
    ≡ at place (Quoted text) ∷ file_tokens (behind_bytes place (34 ∷ text ++ 34 ∷ [])) 0 rest
tokens-quoted place text rest on_line no_quote =
    let whole = text ++ 34 ∷ rest in
    let count = prefix_len-whole is_quotable text (34 ∷ rest) (inner text on_line no_quote) refl in
    let piece = quoted_piece-closed whole text (34 ∷ rest) (length text) (sym count)
    (sym (take-append_seam text (34 ∷ rest))) (sym (drop-append_seam text (34 ∷ rest))) refl in
    let begins_so = piece ∙ file_piece-quote 34 whole refl refl refl refl
    ∙ ap (file_piece 34) (sym (append_assoc text (34 ∷ []) rest)) in
    tokens_with place 34 (text ++ 34 ∷ []) rest (one (Quoted text) (length text + 1)) (on_line-append text on_line)
    (length-quoted text) begins_so

tokens-unclosed : (place : Place) (text rest : List ℕ) → IsOnLine text → HasNoQuote text → IsLineEnd rest
    → file_tokens place 0 (34 ∷ text ++ rest) ≡ at place Unclosed ∷ file_tokens (behind_bytes place (34 ∷ text)) 0 rest
tokens-unclosed place text rest on_line no_quote ends =
    let count = prefix_len-whole is_quotable text rest (inner text on_line no_quote)
    (end_begins is_quotable refl rest ends) in
    let piece = quoted_piece-open (text ++ rest) rest (length text) (sym count) (sym (drop-append_seam text rest))
    (end_begins is_quote refl rest ends) in
    tokens_with place 34 text rest (one Unclosed (length text)) on_line refl
    (piece ∙ file_piece-quote 34 (text ++ rest) refl refl refl refl)

file_tokens-text : (place : Place) {text rest : List ℕ} {token : Option Token} → IsFilePiece text rest token
    → file_tokens place 0 (text ++ rest)
    ≡ option_to_list (option_map (at place) token) ++ file_tokens (behind_bytes place text) 0 rest
file_tokens-text place (separator b rest is) =
    tokens_with place b [] rest (nothing 0) tt refl (file_piece-separator b rest is)
file_tokens-text place (comment text rest on_line ends) = tokens-comment place text rest on_line ends
file_tokens-text place (mark b rest is) = tokens-mark place b rest is
file_tokens-text place (word b bs rest is) = tokens-word place b bs rest is
file_tokens-text place (quoted text rest on_line no_quote) = tokens-quoted place text rest on_line no_quote
file_tokens-text place (unclosed text rest on_line no_quote ends) =
    tokens-unclosed place text rest on_line no_quote ends

-- what is spelled is read
file_read : {place : Place} {bytes : List ℕ} {tokens : List Placed} → SpellsFile place bytes tokens
    → file_tokens place 0 bytes ≡ tokens
file_read (done place) = file_tokens-nil place
file_read (more place text rest token tokens is spelled) =
    file_tokens-text place is ∙ ap (λ others. option_to_list (option_map (at place) token) ++ others)
    (file_read spelled)

pub file_only : (bytes : List ℕ) (tokens : List Placed) → SpellsFile start bytes tokens
    → tokens ≡ file_tokens start 0 bytes
file_only bytes tokens spelled = sym (file_read spelled)

-- bytes that begin with a piece
record Begun (bytes : List ℕ) : Type 0 where
  text : List ℕ
  rest : List ℕ
  token : Option Token
  is : IsFilePiece text rest token
  whole : text ++ rest ≡ bytes
  shorter : length rest < length bytes

begun_with_comment : (bs : List ℕ) → Begun (35 ∷ bs)
begun_with_comment bs = let n = position_or_len is_line_feed bs in record {
  text = 35 ∷ take n bs;
  rest = drop n bs;
  token = None;
  is = comment (take n bs) (drop n bs)
      (all_from (λ b. not_feed b ≡ true) (λ b. is_line_feed b ≡ false) (λ b other. unlike (is_line_feed b) other)
      (take n bs) (prefix_passes not_feed bs))
      (end_is (drop n bs) (prefix_ends not_feed bs));
  whole = ap (λ others. 35 ∷ others) (take-append-drop n bs);
  shorter = omega (arith, length-drop n bs);
}

begins_with_quote : (text : List ℕ) → begins is_quote text ≡ true → text ≡ 34 ∷ drop 1 text
begins_with_quote [] is = absurd (false≢true is)
begins_with_quote (b ∷ bs) is = ap (λ first. first ∷ bs) (eqb-true b 34 is)

begun_with_quote : (bs : List ℕ) (closes : Bool) → begins is_quote (drop (prefix_len is_quotable bs) bs) ≡ closes
    → Begun (34 ∷ bs)
begun_with_quote bs true closes = let n = prefix_len is_quotable bs in let rest = drop 1 (drop n bs) in record {
  text = 34 ∷ take n bs ++ 34 ∷ [];
  rest = rest;
  token = Some (Quoted (take n bs));
  is = quoted (take n bs) rest (inner_on_line (take n bs) (prefix_passes is_quotable bs))
      (inner_no_quote (take n bs) (prefix_passes is_quotable bs));
  whole = ap (λ others. 34 ∷ others)
      (append_assoc (take n bs) (34 ∷ []) rest
      ∙ ap (λ others. take n bs ++ others) (sym (begins_with_quote (drop n bs) closes))
      ∙ take-append-drop n bs);
  shorter = omega (arith, length-drop n bs, length-drop 1 (drop n bs));
}
begun_with_quote bs false closes = let n = prefix_len is_quotable bs in record {
  text = 34 ∷ take n bs;
  rest = drop n bs;
  token = Some Unclosed;
  is = unclosed (take n bs) (drop n bs) (inner_on_line (take n bs) (prefix_passes is_quotable bs))
      (inner_no_quote (take n bs) (prefix_passes is_quotable bs))
      (end_of (drop n bs) (prefix_ends is_quotable bs) closes);
  whole = ap (λ others. 34 ∷ others) (take-append-drop n bs);
  shorter = omega (arith, length-drop n bs);
}

-- each text that isn't empty begins with a piece, by what its first byte is
begun_by : (b : ℕ) (bs : List ℕ) (parts stands hash quote : Bool) → is_separator b ≡ parts → is_file_mark b ≡ stands
    → is_hash b ≡ hash → is_quote b ≡ quote → Begun (b ∷ bs)
begun_by b bs true stands hash quote is_parts is_stands hash_is quote_is = record {
  text = b ∷ [];
  rest = bs;
  token = None;
  is = separator b bs is_parts;
  whole = refl;
  shorter = omega arith;
}
begun_by b bs false true hash quote is_parts is_stands hash_is quote_is = record {
  text = b ∷ [];
  rest = bs;
  token = Some (Mark b);
  is = mark b bs is_stands;
  whole = refl;
  shorter = omega arith;
}
begun_by b bs false false true quote is_parts is_stands hash_is quote_is =
    subst (λ first. Begun (first ∷ bs)) (sym (eqb-true b 35 hash_is)) (begun_with_comment bs)
begun_by b bs false false false true is_parts is_stands hash_is quote_is =
    subst (λ first. Begun (first ∷ bs)) (sym (eqb-true b 34 quote_is))
    (begun_with_quote bs (begins is_quote (drop (prefix_len is_quotable bs) bs)) refl)
begun_by b bs false false false false is_parts is_stands hash_is quote_is =
    let n = prefix_len is_file_word bs in record {
      text = b ∷ take n bs;
      rest = drop n bs;
      token = Some (Word (b ∷ take n bs));
      is = word b (take n bs) (drop n bs) (record {
        all = (ap not (ap (λ test. test || is_file_mark b) is_parts ∙ is_stands), prefix_passes is_file_word bs);
        no_comment = hash_is;
        not_quoted = quote_is;
        ends = prefix_ends is_file_word bs;
      });
      whole = ap (λ others. b ∷ others) (take-append-drop n bs);
      shorter = omega (arith, length-drop n bs);
    }

-- what is read is spelled
spelled_of : (n : ℕ) (place : Place) (bytes : List ℕ) → length bytes ≤ n
    → SpellsFile place bytes (file_tokens place 0 bytes)
spelled_of n place [] short = subst (SpellsFile place []) (sym (file_tokens-nil place)) (done place)
spelled_of zero place (b ∷ bs) short = absurd (omega (arith, short))
spelled_of (suc n) place (b ∷ bs) short =
    let begun = begun_by b bs (is_separator b) (is_file_mark b) (is_hash b) (is_quote b) refl refl refl refl in
    let behind = behind_bytes place begun.text in
    let others = spelled_of n behind begun.rest (omega (arith, short, begun.shorter)) in
    subst (λ bytes. SpellsFile place bytes (file_tokens place 0 bytes)) begun.whole
    (subst (SpellsFile place (begun.text ++ begun.rest)) (sym (file_tokens-text place begun.is))
    (more place begun.text begun.rest begun.token (file_tokens behind 0 begun.rest) begun.is others))

pub file_found : (bytes : List ℕ) → SpellsFile start bytes (file_tokens start 0 bytes)
file_found bytes = spelled_of (length bytes) start bytes (omega arith)
