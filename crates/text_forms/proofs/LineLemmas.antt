-- The lines of a stream, a part at a time.
use Rattle.std.proofs.Common.{ℕ, ◌≡◌, ◌≢◌, ◌<◌, ◌≤◌, ◌==◌, Bool, true, false, cond, List, [], ◌∷◌, ◌++◌, length}
use Rattle.std.proofs.Common.{All, ap, sym, ◌∙◌, refl, inl, inr, arith, lt-ltb, le-ltb, append_assoc}
use Rattle.std.proofs.Common.{length-append}
use Rattle.std.specs.List.{flat_map, AllByRecursion}
use Rattle.std.proofs.lemmas.List.{flat_map_more}
use Rattle.std.proofs.lemmas.Bool.Decides.{eqb_tells}
use Rattle.text_forms.specs.Lines.{Line, Text, TooLong, onto_first, ended_parts, without_return, is_blank_part, line_of}
use Rattle.text_forms.specs.Lines.{line_or_none, lines, ended, IsPassedOver, IsFirstLine}
use Rattle.text_forms.proofs.CutLemmas.{Lacks, lacks_from_all}

differs : (left right : ℕ) → left ≢ right → (left == right) ≡ false
differs left right unlike =
    elim (eqb_tells left right) [ inl equal ↦ absurd (unlike equal.1) | inr unequal ↦ unequal.0 ]

-- the first part ends at the first line feed
ended_parts-line : (part rest : List ℕ) → Lacks 10 part → ended_parts (part ++ 10 ∷ rest) ≡ part ∷ ended_parts rest
ended_parts-line [] rest lacks = refl
ended_parts-line (b ∷ part) rest lacks =
    ap (λ test. cond test ([] ∷ ended_parts (part ++ 10 ∷ rest)) (onto_first b (ended_parts (part ++ 10 ∷ rest))))
    (differs b 10 lacks.0)
    ∙ ap (onto_first b) (ended_parts-line part rest lacks.1)

ended_parts-none : (rest : List ℕ) → Lacks 10 rest → ended_parts rest ≡ []
ended_parts-none [] lacks = refl
ended_parts-none (b ∷ rest) lacks =
    ap (λ test. cond test ([] ∷ ended_parts rest) (onto_first b (ended_parts rest))) (differs b 10 lacks.0)
    ∙ ap (onto_first b) (ended_parts-none rest lacks.1)

-- the first part makes the first line, if it makes one
pub lines-line : (part rest : List ℕ) → Lacks 10 part → lines (part ++ 10 ∷ rest) ≡ line_or_none part ++ lines rest
lines-line part rest lacks = ap (flat_map line_or_none) (ended_parts-line part rest lacks)

-- what no line feed ends makes no line
pub lines-none : (rest : List ℕ) → Lacks 10 rest → lines rest ≡ []
lines-none rest lacks = ap (flat_map line_or_none) (ended_parts-none rest lacks)

without_return-tail : (first last : ℕ) (middle shorter : List ℕ) → without_return (middle ++ last ∷ []) ≡ shorter
    → without_return ((first ∷ middle) ++ last ∷ []) ≡ first ∷ shorter
without_return-tail first last [] shorter same = ap (λ text. first ∷ text) same
without_return-tail first last (second ∷ middle) shorter same = ap (λ text. first ∷ text) same

pub without_return-end : (front : List ℕ) → without_return (front ++ 13 ∷ []) ≡ front
without_return-end [] = refl
without_return-end (b ∷ front) = without_return-tail b 13 front front (without_return-end front)

pub without_return-other : (front : List ℕ) (last : ℕ) → last ≢ 13
    → without_return (front ++ last ∷ []) ≡ front ++ last ∷ []
without_return-other [] last other = ap (λ test. cond test [] (last ∷ [])) (differs last 13 other)
without_return-other (b ∷ front) last other =
    without_return-tail b last front (front ++ last ∷ []) (without_return-other front last other)

pub line_or_none-blank : (part : List ℕ) → is_blank_part part ≡ true → line_or_none part ≡ []
unfolding line_or_none
line_or_none-blank part blank = ap (λ test. cond test [] (line_of part ∷ [])) blank

pub line_or_none-long : (part : List ℕ) → is_blank_part part ≡ false → 65535 < length part
    → line_or_none part ≡ TooLong ∷ []
unfolding line_or_none
line_or_none-long part not_blank long =
    ap (λ test. cond test [] (line_of part ∷ [])) not_blank
    ∙ ap (λ test. cond test TooLong (Text (without_return part)) ∷ []) (lt-ltb 65535 (length part) long)

pub line_or_none-text : (part : List ℕ) → is_blank_part part ≡ false → length part ≤ 65535
    → line_or_none part ≡ Text (without_return part) ∷ []
unfolding line_or_none
line_or_none-text part not_blank short =
    ap (λ test. cond test [] (line_of part ∷ [])) not_blank
    ∙ ap (λ test. cond test TooLong (Text (without_return part)) ∷ []) (le-ltb 65535 (length part) short)

-- a stream is parts that make no line, and then a rest
pub record IsBehindParts (bytes rest : List ℕ) : Type 0 where
  pub before : List (List ℕ)
  pub passed_over : AllByRecursion IsPassedOver before
  pub bytes_are : bytes ≡ flat_map ended before ++ rest

-- no part stands before the whole stream
pub behind_none : (bytes : List ℕ) → IsBehindParts bytes bytes
behind_none bytes = record { before = []; passed_over = tt; bytes_are = refl }

blank_from_test : (blank : Bool) (line : Line) → cond blank [] (line ∷ []) ≡ [] → blank ≡ true
blank_from_test true line none = refl
blank_from_test false line none = absurd (cc)

blank_from : (part : List ℕ) → line_or_none part ≡ [] → is_blank_part part ≡ true
unfolding line_or_none
blank_from part none = blank_from_test (is_blank_part part) (line_of part) none

passed_more : (before : List (List ℕ)) (part : List ℕ) → AllByRecursion IsPassedOver before → IsPassedOver part
    → AllByRecursion IsPassedOver (before ++ part ∷ [])
passed_more [] part earlier passed = (passed, tt)
passed_more (p ∷ ps) part earlier passed = (earlier.0, passed_more ps part earlier.1 passed)

-- one part more makes no line
pub behind_more : (bytes rest part after : List ℕ) → IsBehindParts bytes rest → rest ≡ part ++ 10 ∷ after
    → All (λ b. b ≢ 10) part → line_or_none part ≡ [] → IsBehindParts bytes after
behind_more bytes rest part after behind is no_feed none = record {
  before = behind.before ++ part ∷ [];
  passed_over = passed_more behind.before part behind.passed_over
      (record { no_feed = no_feed; blank = blank_from part none });
  bytes_are = behind.bytes_are ∙ ap (λ more. flat_map ended behind.before ++ more)
      (is ∙ sym (append_assoc part (10 ∷ []) after))
      ∙ sym (append_assoc (flat_map ended behind.before) (ended part) after)
      ∙ ap (λ more. more ++ after) (flat_map_more ended [] behind.before part);
}

lines-passed : (before : List (List ℕ)) (rest : List ℕ) → AllByRecursion IsPassedOver before
    → lines (flat_map ended before ++ rest) ≡ lines rest
lines-passed [] rest passed = refl
lines-passed (p ∷ ps) rest passed =
    ap lines (append_assoc (ended p) (flat_map ended ps) rest ∙ append_assoc p (10 ∷ []) (flat_map ended ps ++ rest))
    ∙ lines-line p (flat_map ended ps ++ rest) (lacks_from_all 10 p passed.0.no_feed)
    ∙ ap (λ first. first ++ lines (flat_map ended ps ++ rest)) (line_or_none-blank p passed.0.blank)
    ∙ lines-passed ps rest passed.1

-- parts that make no line are passed over
pub lines-behind : (bytes rest : List ℕ) → IsBehindParts bytes rest → lines bytes ≡ lines rest
lines-behind bytes rest behind = ap lines behind.bytes_are ∙ lines-passed behind.before rest behind.passed_over

-- the next part that makes a line makes the first
pub first_of : (bytes rest part after : List ℕ) (line : Line) → IsBehindParts bytes rest → rest ≡ part ++ 10 ∷ after
    → All (λ b. b ≢ 10) part → line_or_none part ≡ line ∷ [] → IsFirstLine bytes line after
first_of bytes rest part after line behind is no_feed makes = record {
  before = behind.before;
  passed_over = behind.passed_over;
  part = part;
  no_feed = no_feed;
  line_is = makes;
  bytes_are = behind.bytes_are ∙ ap (λ more. flat_map ended behind.before ++ more) is;
}

-- so it is the first of the stream's lines
pub lines-first : (bytes : List ℕ) (line : Line) (rest : List ℕ) → IsFirstLine bytes line rest
    → lines bytes ≡ line ∷ lines rest
lines-first bytes line rest first =
    ap lines first.bytes_are ∙ lines-passed first.before (first.part ++ 10 ∷ rest) first.passed_over
    ∙ lines-line first.part rest (lacks_from_all 10 first.part first.no_feed)
    ∙ ap (λ made. made ++ lines rest) first.line_is

-- and what is behind it is shorter than the stream
pub first_shorter : (bytes : List ℕ) (line : Line) (rest : List ℕ) → IsFirstLine bytes line rest
    → length rest < length bytes
first_shorter bytes line rest first =
    let parts = flat_map ended first.before in
    omega (
      arith,
      ap length first.bytes_are,
      length-append parts (first.part ++ 10 ∷ rest),
      length-append first.part (10 ∷ rest),
    )
