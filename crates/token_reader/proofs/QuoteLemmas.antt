-- Quoted words: the first quotation mark or line feed decides.
use Rattle.std.proofs.Common.{ℕ, suc, ◌≡◌, ◌+◌, Bool, true, false, not, cond, ◌||◌, List, [], ◌∷◌, take, drop, arith}
use Rattle.std.proofs.Common.{ap, sym, ◌∙◌, refl, subst}
use Rattle.std.proofs.lemmas.Bool.{false≢true, eqb-true}
use Rattle.std.proofs.lemmas.List.Sums.{take_while-cons}
use Rattle.std.specs.List.{list_any, prefix_len, before_first, position_or_len}
use Rattle.token_reader.specs.FileTokens.{quoted_piece}
use Rattle.token_reader.specs.Pieces.{Piece, one}
use Rattle.token_reader.specs.Signs.{is_quote, is_line_feed, is_quotable, begins}
use Rattle.token_reader.specs.Tokens.{Quoted, Unclosed}
use Rattle.token_reader.proofs.PlaceLemmas.{OnLine, on_line}

-- a quotation mark stands on the line that a text begins with
abbrev closed : List ℕ → Bool
closed text = list_any is_quote (before_first is_line_feed text)

-- the same with one byte more in front, by what that byte is
abbrev closed_by : Bool → Bool → Bool → Bool
closed_by quote feed others = cond (not feed) (quote || others) false

closed-cons : (b : ℕ) (bs : List ℕ) → closed (b ∷ bs) ≡ closed_by (is_quote b) (is_line_feed b) (closed bs)
closed-cons b bs =
    ap (list_any is_quote) (take_while-cons (λ x. not (is_line_feed x)) b bs) ∙ split (is_line_feed b)
  where
    split : (feed : Bool) → list_any is_quote (cond (not feed) (b ∷ before_first is_line_feed bs) [])
        ≡ cond (not feed) (is_quote b || closed bs) false
    split true = refl
    split false = refl

-- what a byte is, by its two tests
record Tests (b : ℕ) (quote feed : Bool) : Type 0 where
  quote_is : is_quote b ≡ quote
  feed_is : is_line_feed b ≡ feed

never_both : (b : ℕ) → Tests b true true → ⊥
never_both b tests = absurd (omega (arith, eqb-true b 34 tests.quote_is, eqb-true b 10 tests.feed_is))

closed_at : (b : ℕ) (bs : List ℕ) (quote feed : Bool) → Tests b quote feed
    → closed (b ∷ bs) ≡ closed_by quote feed (closed bs)
closed_at b bs quote feed tests =
    closed-cons b bs ∙ ap (λ test. closed_by test (is_line_feed b) (closed bs)) tests.quote_is
    ∙ ap (λ test. closed_by quote test (closed bs)) tests.feed_is

quotable_at : (b : ℕ) (bs : List ℕ) (quote feed : Bool) → Tests b quote feed
    → prefix_len is_quotable (b ∷ bs) ≡ cond (not (quote || feed)) (1 + prefix_len is_quotable bs) 0
quotable_at b bs quote feed tests =
    ap (λ test. cond (not (test || is_line_feed b)) (1 + prefix_len is_quotable bs) 0) tests.quote_is
    ∙ ap (λ test. cond (not (quote || test)) (1 + prefix_len is_quotable bs) 0) tests.feed_is

-- what stands behind the bytes that a quoted word can hold
abbrev ends : List ℕ → Bool
ends text = begins is_quote (drop (prefix_len is_quotable text) text)

ends_now : (b : ℕ) (bs : List ℕ) (quote feed : Bool) → Tests b quote feed → (quote || feed) ≡ true
    → ends (b ∷ bs) ≡ quote
ends_now b bs quote feed tests now =
    ap (λ n. begins is_quote (drop n (b ∷ bs)))
    (quotable_at b bs quote feed tests ∙ ap (λ test. cond (not test) (1 + prefix_len is_quotable bs) 0) now)
    ∙ tests.quote_is

ends_later : (b : ℕ) (bs : List ℕ) → Tests b false false → ends (b ∷ bs) ≡ ends bs
ends_later b bs tests =
    ap (λ n. begins is_quote (drop n (b ∷ bs))) (quotable_at b bs false false tests ∙ more)
  where
    more : 1 + prefix_len is_quotable bs ≡ suc (prefix_len is_quotable bs)
    more = omega arith

-- a word is closed exactly where a quotation mark ends what it can hold
closed_at_end : (b : ℕ) (bs : List ℕ) (quote feed : Bool) → Tests b quote feed → closed bs ≡ ends bs
    → closed (b ∷ bs) ≡ ends (b ∷ bs)
closed_at_end b bs true true tests others = absurd (never_both b tests)
closed_at_end b bs true false tests others =
    closed_at b bs true false tests ∙ sym (ends_now b bs true false tests refl)
closed_at_end b bs false true tests others =
    closed_at b bs false true tests ∙ sym (ends_now b bs false true tests refl)
closed_at_end b bs false false tests others =
    closed_at b bs false false tests ∙ others ∙ sym (ends_later b bs tests)

closed-ends : (text : List ℕ) → closed text ≡ ends text
closed-ends [] = refl
closed-ends (b ∷ bs) =
    closed_at_end b bs (is_quote b) (is_line_feed b) (record { quote_is = refl; feed_is = refl }) (closed-ends bs)

-- how many bytes stand before the first quotation mark, and before the first line feed
quote_at : (b : ℕ) (bs : List ℕ) (quote feed : Bool) → Tests b quote feed
    → (ends bs ≡ true → position_or_len is_quote bs ≡ prefix_len is_quotable bs) → ends (b ∷ bs) ≡ true
    → position_or_len is_quote (b ∷ bs) ≡ prefix_len is_quotable (b ∷ bs)
quote_at b bs true feed tests others end =
    ap (λ test. cond (not test) (1 + position_or_len is_quote bs) 0) tests.quote_is
    ∙ sym (quotable_at b bs true feed tests)
quote_at b bs false true tests others end =
    absurd (false≢true (sym (ends_now b bs false true tests refl) ∙ end))
quote_at b bs false false tests others end =
    ap (λ test. cond (not test) (1 + position_or_len is_quote bs) 0) tests.quote_is
    ∙ ap (λ n. 1 + n) (others (sym (ends_later b bs tests) ∙ end))
    ∙ sym (quotable_at b bs false false tests)

position-quote : (text : List ℕ) → ends text ≡ true → position_or_len is_quote text ≡ prefix_len is_quotable text
position-quote [] end = absurd (false≢true end)
position-quote (b ∷ bs) end =
    quote_at b bs (is_quote b) (is_line_feed b) (record { quote_is = refl; feed_is = refl }) (position-quote bs) end

feed_at : (b : ℕ) (bs : List ℕ) (quote feed : Bool) → Tests b quote feed
    → (ends bs ≡ false → position_or_len is_line_feed bs ≡ prefix_len is_quotable bs) → ends (b ∷ bs) ≡ false
    → position_or_len is_line_feed (b ∷ bs) ≡ prefix_len is_quotable (b ∷ bs)
feed_at b bs true feed tests others end = absurd (false≢true (sym end ∙ ends_now b bs true feed tests refl))
feed_at b bs false true tests others end =
    ap (λ test. cond (not test) (1 + position_or_len is_line_feed bs) 0) tests.feed_is
    ∙ sym (quotable_at b bs false true tests)
feed_at b bs false false tests others end =
    ap (λ test. cond (not test) (1 + position_or_len is_line_feed bs) 0) tests.feed_is
    ∙ ap (λ n. 1 + n) (others (sym (ends_later b bs tests) ∙ end))
    ∙ sym (quotable_at b bs false false tests)

position-feed : (text : List ℕ) → ends text ≡ false
    → position_or_len is_line_feed text ≡ prefix_len is_quotable text
position-feed [] end = refl
position-feed (b ∷ bs) end =
    feed_at b bs (is_quote b) (is_line_feed b) (record { quote_is = refl; feed_is = refl }) (position-feed bs) end

-- the piece, by whether the word is closed
abbrev quoted_by : Bool → List ℕ → Piece
quoted_by test text =
    cond test (one (Quoted (before_first is_quote text)) (position_or_len is_quote text + 1))
    (one Unclosed (position_or_len is_line_feed text))

quoted_piece-by : (text : List ℕ) → quoted_piece text ≡ quoted_by (closed text) text
unfolding quoted_piece
quoted_piece-by text = refl

pub quoted_piece-closed : (text inner rest : List ℕ) (n : ℕ) → n ≡ prefix_len is_quotable text → inner ≡ take n text
    → rest ≡ drop n text → begins is_quote rest ≡ true → one (Quoted inner) (n + 1) ≡ quoted_piece text
quoted_piece-closed text inner rest n count front back end =
    let ended : ends text ≡ true = ap (λ k. begins is_quote (drop k text)) (sym count)
    ∙ ap (begins is_quote) (sym back) ∙ end in
    let count' : n ≡ position_or_len is_quote text = count ∙ sym (position-quote text ended) in
    ap (λ word. one (Quoted word) (n + 1)) front
    ∙ ap (λ k. one (Quoted (take k text)) (k + 1)) count'
    ∙ sym (quoted_piece-by text ∙ ap (λ test. quoted_by test text) (closed-ends text ∙ ended))

pub quoted_piece-open : (text rest : List ℕ) (n : ℕ) → n ≡ prefix_len is_quotable text → rest ≡ drop n text
    → begins is_quote rest ≡ false → one Unclosed n ≡ quoted_piece text
quoted_piece-open text rest n count back end =
    let ended : ends text ≡ false = ap (λ k. begins is_quote (drop k text)) (sym count)
    ∙ ap (begins is_quote) (sym back) ∙ end in
    ap (one Unclosed) (count ∙ sym (position-feed text ended))
    ∙ sym (quoted_piece-by text ∙ ap (λ test. quoted_by test text) (closed-ends text ∙ ended))

-- a quoted word ends on its line
closes_at : (b : ℕ) (bs : List ℕ) (quote feed : Bool) → Tests b quote feed
    → (closed bs ≡ true → OnLine (position_or_len is_quote bs + 1) bs) → closed (b ∷ bs) ≡ true
    → OnLine (position_or_len is_quote (b ∷ bs) + 1) (b ∷ bs)
closes_at b bs quote true tests others close = absurd (false≢true (sym (closed_at b bs quote true tests) ∙ close))
closes_at b bs true false tests others close =
    let now : 1 ≡ position_or_len is_quote (b ∷ bs) + 1 =
    sym (ap (λ test. cond (not test) (1 + position_or_len is_quote bs) 0 + 1) tests.quote_is) in
    subst (λ n. OnLine n (b ∷ bs)) now (tests.feed_is, tt)
closes_at b bs false false tests others close =
    let later : suc (position_or_len is_quote bs + 1) ≡ position_or_len is_quote (b ∷ bs) + 1 =
    more (position_or_len is_quote bs)
    ∙ sym (ap (λ test. cond (not test) (1 + position_or_len is_quote bs) 0 + 1) tests.quote_is) in
    subst (λ n. OnLine n (b ∷ bs)) later (tests.feed_is, others (sym (closed_at b bs false false tests) ∙ close))
  where
    more : (n : ℕ) → suc (n + 1) ≡ 1 + n + 1
    more n = omega arith

on_line-closed : (text : List ℕ) → closed text ≡ true → OnLine (position_or_len is_quote text + 1) text
on_line-closed [] close = absurd (false≢true close)
on_line-closed (b ∷ bs) close =
    closes_at b bs (is_quote b) (is_line_feed b) (record { quote_is = refl; feed_is = refl }) (on_line-closed bs) close

not_feed : (b : ℕ) → not (is_line_feed b) ≡ true → is_line_feed b ≡ false
not_feed b other = flip (is_line_feed b) other
  where
    flip : (test : Bool) → not test ≡ true → test ≡ false
    flip true other = absurd (false≢true other)
    flip false other = refl

pub on_line-feed : (text : List ℕ) → OnLine (position_or_len is_line_feed text) text
on_line-feed text = on_line (λ b. not (is_line_feed b)) not_feed text

pub on_line-quoted : (text : List ℕ) → OnLine (quoted_piece text).further text
on_line-quoted text =
    subst (λ (piece : Piece). OnLine piece.further text) (sym (quoted_piece-by text))
    (split (closed text) (on_line-closed text))
  where
    split : (test : Bool) → (test ≡ true → OnLine (position_or_len is_quote text + 1) text)
        → OnLine (quoted_by test text).further text
    split true close = close refl
    split false close = on_line-feed text
