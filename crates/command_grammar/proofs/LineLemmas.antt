-- What reading a line gives.
use Rattle.std.proofs.Common.{ℕ, ◌≡◌, ◌+◌, true, false, List, [], ◌∷◌, ◌++◌, length}
use Rattle.std.proofs.Common.{Option, Some, None, Result, Ok, Err, inl, inr, arith, ap, sym, ◌∙◌, refl}
use Rattle.std.proofs.Common.{subst, append-nil}
use Rattle.std.proofs.lemmas.Bool.{false≢true}
use Rattle.token_reader.specs.declared.token.Place.{Place}
use Rattle.token_reader.specs.LineTokens.{line_tokens, numbered, tokens_of_line, end_of_line}
use Rattle.token_reader.specs.Tokens.{Token, Placed, front_token}
use Rattle.route_grammar.specs.declared.fault.LineFault.TheVariants.{BadToken, TooMany, TooLong}
use Rattle.route_grammar.specs.declared.fault.ReadFault.{ReadFault}
use Rattle.route_grammar.specs.declared.fault.ReadFault.TheVariants.{Line, NoMemory}
use Rattle.route_grammar.specs.Limits.{Counted, Limits, in_force}
use Rattle.route_grammar.specs.Productions.{IsFirstFault, front}
use Rattle.route_grammar.specs.Productions.{all_further}
use Rattle.route_grammar.specs.Answered.{tokens_of, column, Answers, Faults}
use Rattle.route_grammar.proofs.ProductionLemmas.{IsChosen}
use Rattle.route_grammar.proofs.AnsweredLemmas.{chosen_answers, first_fault_of, tokens_append}
use Rattle.command_grammar.specs.declared.command.Command.{Command}
use Rattle.command_grammar.specs.declared.command.Command.TheVariants as said
use Rattle.command_grammar.specs.Lines.{is_remark, Spoken, ReadsLine}
use Rattle.command_grammar.specs.Readings.{SaysText}
use Rattle.command_grammar.proofs.KindLemmas.{kind_at, no_remark, spoken_kinds, remark_front, remark_kind}

-- ---- remarks

remark_once : (limits : Limits) (tokens : List Token) (value : Command) → is_remark (front tokens) ≡ true
    → ReadsLine limits tokens value → value ≡ said.Comment
remark_once limits tokens value is (inl read) = read.3
remark_once limits tokens value is (inr read) =
    absurd (no_remark (front (tokens ++ [])) (spoken_kinds limits tokens [] value read)
    (ap (λ (all : List Token). kind_at (front all)) (append-nil tokens) ∙ remark_kind tokens is))

front_numbered : (n : ℕ) (tokens : List Token) → front_token (numbered n tokens) ≡ front tokens
front_numbered n [] = refl
front_numbered n (token ∷ tokens) = refl

pub remark_says : (text : List ℕ) → is_remark (front_token (tokens_of_line text)) ≡ true
    → SaysText text (Ok said.Comment)
remark_says text is =
    let at : is_remark (front (line_tokens 0 text)) ≡ true =
    ap is_remark (sym (front_numbered 1 (line_tokens 0 text))) ∙ is in
    let remark = remark_front (line_tokens 0 text) at in (
      inl (remark.0, remark.1, remark.2, refl),
      λ other read. remark_once in_force (line_tokens 0 text) other at read,
    )

line_only : (limits : Limits) (tokens others : List Token) (value : Command) (lead : Option Token)
    → front (tokens ++ others) ≡ lead → is_remark lead ≡ false → ReadsLine limits tokens value
    → Spoken limits tokens value
line_only limits tokens others value lead at is (inl read) =
    absurd (false≢true (sym is ∙ ap is_remark (sym at)
    ∙ ap (λ (all : List Token). is_remark (front (all ++ others))) read.2))
line_only limits tokens others value lead at is (inr read) = read

pub spoken_answers : (tokens left : List Placed) (end : Place) (answer : Result Command ReadFault)
    → is_remark (front_token tokens) ≡ false → Answers Spoken all_further in_force tokens left end answer
    → Answers ReadsLine all_further in_force tokens left end answer
spoken_answers tokens left end answer is given =
    let chosen : IsChosen Spoken ReadsLine all_further (front_token tokens) =
    record {
      wider = λ limits text value read. inr read;
      same = λ limits text others value at ends read.
          line_only limits text others value (front_token tokens) at is read;
    } in
    chosen_answers Spoken ReadsLine all_further in_force tokens left end (front_token tokens) answer chosen refl given

-- ---- a whole line

tokens_back : (n : ℕ) (tokens : List Token) → tokens_of (numbered n tokens) ≡ tokens
tokens_back n [] = refl
tokens_back n (token ∷ tokens) = ap (λ (others : List Token). token ∷ others) (tokens_back (n + 1) tokens)

behind_one : (one first : Placed) (others left : List Placed) → one ∷ others ≡ first ∷ left → others ≡ left
behind_one one first others left same = cc

column_at : (n : ℕ) (tokens : List Token) (before left : List Placed) (end : Place)
    → end.column ≡ n + length tokens → numbered n tokens ≡ before ++ left
    → column left end ≡ n + length (tokens_of before)
column_at n [] [] left end ends is =
    sym (ap (λ (some : List Placed). column some end) is) ∙ ends
column_at n (token ∷ tokens) [] left end ends is =
    sym (ap (λ (some : List Placed). column some end) is) ∙ omega arith
column_at n [] (first ∷ before) left end ends is = absurd (cc is)
column_at n (token ∷ tokens) (first ∷ before) left end ends is =
    let more = column_at (n + 1) tokens before left end (omega (arith, ends))
    (behind_one (record { token = token; place = record { line = 1; column = n } }) first (numbered (n + 1) tokens)
    (before ++ left) is) in omega (arith, more)

place_of : (text : List ℕ) (before left : List Placed) (end : Place) (place : ℕ) → end ≡ end_of_line text
    → place ≡ column left end → tokens_of_line text ≡ before ++ left → place ≡ length (tokens_of before) + 1
place_of text before left end place ends at is =
    let ended : end.column ≡ length (line_tokens 0 text) + 1 = ap (λ (one : Place). one.column) ends in
    omega (arith, at, column_at 1 (line_tokens 0 text) before left end (omega (arith, ended)) is)

first_fault : (text : List ℕ) (left : List Placed) (over : Option Counted)
    → (faults : Faults ReadsLine all_further in_force (tokens_of_line text) left over)
    → IsFirstFault ReadsLine in_force (line_tokens 0 text) (length (tokens_of faults.0)) over
first_fault text left over faults =
    subst (λ (tokens : List Token). IsFirstFault ReadsLine in_force tokens (length (tokens_of faults.0)) over)
    (tokens_back 1 (line_tokens 0 text)) (first_fault_of ReadsLine in_force (tokens_of_line text) left over faults)

none_left : (left : List Placed) → all_further (front_token left) ≡ false → left ≡ []
none_left [] ends = refl
none_left (first ∷ left) ends = absurd (false≢true (sym ends))

all_read : (text : List ℕ) (before left : List Placed) → tokens_of_line text ≡ before ++ left → left ≡ []
    → tokens_of before ≡ line_tokens 0 text
all_read text before left is none =
    sym (append-nil (tokens_of before)) ∙ sym (ap (λ (some : List Placed). tokens_of before ++ tokens_of some) none)
    ∙ sym (tokens_append before left) ∙ sym (ap tokens_of is) ∙ tokens_back 1 (line_tokens 0 text)

pub line_says : (text : List ℕ) (left : List Placed) (end : Place) (result : Result Command ReadFault)
    → end ≡ end_of_line text → Answers ReadsLine all_further in_force (tokens_of_line text) left end result
    → SaysText text result
line_says text left end (Ok command) ends (before, is, read) =
    let none = none_left left read.ends in
    let whole = all_read text before left is none in (
      subst (λ (tokens : List Token). ReadsLine in_force tokens command) whole read.found,
      λ other also. (read.only in_force [] (line_tokens 0 text) [] other (sym (ap front_token none))
          (ap (λ (tokens : List Token). tokens ++ []) whole) also refl).1,
    )
line_says text left end (Err (Line (BadToken place))) ends (at, faults) = (
  length (tokens_of faults.0),
  place_of text faults.0 left end place ends at faults.1,
  first_fault text left None faults,
)
line_says text left end (Err (Line (TooMany place limit))) ends (which, limit_is, at, faults) = (
  length (tokens_of faults.0),
  which,
  place_of text faults.0 left end place ends at faults.1,
  limit_is,
  first_fault text left (Some which) faults,
)
line_says text left end (Err (Line TooLong)) ends is = is
line_says text left end (Err NoMemory) ends is = tt

pub spoken_says : (text : List ℕ) (tokens left : List Placed) (end : Place) (result : Result Command ReadFault)
    → tokens ≡ tokens_of_line text → end ≡ end_of_line text → is_remark (front_token tokens) ≡ false
    → Answers Spoken all_further in_force tokens left end result → SaysText text result
spoken_says text tokens left end result is ends never given =
    let goal : List Placed → Type 0 = λ some. Answers ReadsLine all_further in_force some left end result in
    line_says text left end result ends (subst goal is (spoken_answers tokens left end result never given))
