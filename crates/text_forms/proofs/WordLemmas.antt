-- The words of a line, a word at a time.
use Rattle.std.proofs.Common.{ℕ, ◌≡◌, ◌<◌, ◌≤◌, Bool, true, false, not, cond, List, [], ◌∷◌, ◌++◌, length, take, drop}
use Rattle.std.proofs.Common.{arith, ap, sym, ◌∙◌, refl, append_assoc, length-append}
use Rattle.std.proofs.lemmas.Bool.{false≢true}
use Rattle.std.proofs.lemmas.List.{take-append-drop, length-take-le}
use Rattle.std.proofs.lemmas.List.Elements.{All-append, All-from_recursion, All-nil, recursion_from_All}
use Rattle.std.specs.List.{AllByRecursion}
use Rattle.text_forms.specs.Blanks.{is_blank_byte, HasNoBlank, IsBehindBlanks}
use Rattle.text_forms.specs.Lines.{onto_first}
use Rattle.text_forms.specs.Words.{begins_word, words_of, IsFirstWord}

-- the words with one byte more, by what that byte is and what follows it
abbrev words_with : ℕ → Bool → Bool → List (List ℕ) → List (List ℕ)
words_with b blank begins words = cond blank words (cond begins (onto_first b words) ((b ∷ []) ∷ words))

words_of-step : (b : ℕ) (bs : List ℕ)
    → words_of (b ∷ bs) ≡ words_with b (is_blank_byte b) (begins_word bs) (words_of bs)
unfolding words_of
words_of-step b bs = refl

pub words_of-nil : words_of [] ≡ []
unfolding words_of
words_of-nil = refl

pub words_of-blank : (b : ℕ) (bs : List ℕ) → is_blank_byte b ≡ true → words_of (b ∷ bs) ≡ words_of bs
words_of-blank b bs blank = words_of-step b bs ∙ ap (λ test. words_with b test (begins_word bs) (words_of bs)) blank

-- no space and no tab
abbrev pub IsWord : List ℕ → Type 0
IsWord word = AllByRecursion (λ b. is_blank_byte b ≡ false) word

-- a word that ends where the text does, or at a blank
pub words_of-word : (b : ℕ) (word rest : List ℕ) → IsWord (b ∷ word) → begins_word rest ≡ false
    → words_of ((b ∷ word) ++ rest) ≡ (b ∷ word) ∷ words_of rest
words_of-word b [] rest is_word ends =
    words_of-step b rest ∙ ap (λ test. words_with b test (begins_word rest) (words_of rest)) is_word.0
    ∙ ap (λ test. cond test (onto_first b (words_of rest)) ((b ∷ []) ∷ words_of rest)) ends
words_of-word b (c ∷ word) rest is_word ends =
    words_of-step b (c ∷ word ++ rest)
    ∙ ap (λ test. words_with b test (begins_word (c ∷ word ++ rest)) (words_of (c ∷ word ++ rest))) is_word.0
    ∙ ap (λ test. cond (not test) (onto_first b (words_of (c ∷ word ++ rest))) ((b ∷ []) ∷ words_of (c ∷ word ++ rest)))
    is_word.1.0
    ∙ ap (onto_first b) (words_of-word c word rest is_word.1 ends)

pub words_of-none : (rest : List ℕ) → begins_word rest ≡ false
    → (0 < length rest → begins_word rest ≡ true) → words_of rest ≡ []
words_of-none [] ends begins = words_of-nil
words_of-none (b ∷ bs) ends begins = absurd (false≢true (sym ends ∙ begins (omega arith)))

word_then : (word rest : List ℕ) → IsWord word → 0 < length word → begins_word rest ≡ false
    → words_of (word ++ rest) ≡ word ∷ words_of rest
word_then [] rest is_word some ends = absurd (omega (arith, some))
word_then (b ∷ word) rest is_word some ends = words_of-word b word rest is_word ends

-- no blank stands before the whole text
pub behind_none : (text : List ℕ) → IsBehindBlanks text text
behind_none text = record { before = []; blanks = All-nil (λ b. is_blank_byte b ≡ true); text_is = refl }

-- one blank more is passed over
pub behind_more : (text rest : List ℕ) (b : ℕ) (after : List ℕ) → IsBehindBlanks text rest → rest ≡ b ∷ after
    → is_blank_byte b ≡ true → IsBehindBlanks text after
behind_more text rest b after behind begins blank =
    let IsBlank : ℕ → Type 0 = λ byte. is_blank_byte byte ≡ true in
    record {
      before = behind.before ++ b ∷ [];
      blanks = All-append IsBlank behind.before (b ∷ []) behind.blanks
          (All-from_recursion IsBlank (b ∷ []) (blank, tt));
      text_is = behind.text_is ∙ ap (λ more. behind.before ++ more) begins
          ∙ sym (append_assoc behind.before (b ∷ []) after);
    }

words_of-blanks : (before rest : List ℕ) → AllByRecursion (λ b. is_blank_byte b ≡ true) before
    → words_of (before ++ rest) ≡ words_of rest
words_of-blanks [] rest blanks = refl
words_of-blanks (b ∷ before) rest blanks =
    words_of-blank b (before ++ rest) blanks.0 ∙ words_of-blanks before rest blanks.1

-- blanks before a text are part of no word
pub words_of-behind : (text rest : List ℕ) → IsBehindBlanks text rest → words_of text ≡ words_of rest
words_of-behind text rest behind =
    ap words_of behind.text_is
    ∙ words_of-blanks behind.before rest (recursion_from_All (λ b. is_blank_byte b ≡ true) behind.before behind.blanks)

-- the part of a text before a blank, or before its end, is its first word
pub first_of : (text rest : List ℕ) (len : ℕ) → IsBehindBlanks text rest → HasNoBlank (take len rest)
    → begins_word (drop len rest) ≡ false → 0 < len → len ≤ length rest
    → IsFirstWord text (take len rest) (drop len rest)
first_of text rest len behind no_blank ends some within = record {
  before = behind.before;
  blanks = behind.blanks;
  no_blank = no_blank;
  filled = omega (arith, some, length-take-le len rest within);
  ends = ends;
  text_is = behind.text_is ∙ ap (λ more. behind.before ++ more) (sym (take-append-drop len rest));
}

-- so it is the first of the text's words
pub words_of-first : (text word rest : List ℕ) → IsFirstWord text word rest → words_of text ≡ word ∷ words_of rest
words_of-first text word rest first =
    ap words_of first.text_is
    ∙ words_of-blanks first.before (word ++ rest)
    (recursion_from_All (λ b. is_blank_byte b ≡ true) first.before first.blanks)
    ∙ word_then word rest (recursion_from_All (λ b. is_blank_byte b ≡ false) word first.no_blank) first.filled
    first.ends

-- and what is behind it is shorter than the text
pub first_shorter : (text word rest : List ℕ) → IsFirstWord text word rest → length rest < length text
first_shorter text word rest first =
    omega (
      arith,
      first.filled,
      ap length first.text_is,
      length-append first.before (word ++ rest),
      length-append word rest,
    )
