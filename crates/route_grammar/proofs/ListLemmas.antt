-- Lists of words between brackets.
use Rattle.std.proofs.Common.{ℕ, ◌≡◌, ◌≢◌, ◌<◌, ◌≤◌, true, false, List, [], ◌∷◌, ◌++◌, length, Option, Some}
use Rattle.std.proofs.Common.{Err, None, ap, sym, ◌∙◌, refl, subst, arith, length-append, inl, inr}
use Rattle.std.proofs.Common.{append-nil}
use Rattle.token_reader.specs.Tokens.{Token, Mark, Word, Placed, front_token, behind_front}
use Rattle.token_reader.specs.declared.token.Place.{Place}
use Rattle.route_grammar.specs.declared.fault.ReadFault.{ReadFault}
use Rattle.route_grammar.specs.Limits.{Counted, Limits, raised}
use Rattle.route_grammar.specs.Limits.{in_force as lines_have}
use Rattle.route_grammar.specs.Productions.{Production, Further, nothing_further, front, OneWord}
use Rattle.route_grammar.specs.Productions.{Bracketed, Saying}
use Rattle.route_grammar.specs.Answered.{Faults, Reads, Answers, IsNoRoom}
use Rattle.route_grammar.specs.Lists.{ListOf, AreFew, single, opening_bracket, closing_bracket}
use Rattle.route_grammar.proofs.ProductionLemmas.{Grows, IsChosen}
use Rattle.route_grammar.proofs.LimitLemmas.{raised_one, held_one}
use Rattle.route_grammar.proofs.RepeatedLemmas.{Starts}
use Rattle.route_grammar.proofs.InsideLemmas.{IsInside, IsNext, inside_none, inside_more, inside_read, inside_faults}
use Rattle.route_grammar.proofs.InsideLemmas.{next_faults}
use Rattle.route_grammar.proofs.AnsweredLemmas.{fault_answers, saying_reads}
use Rattle.route_grammar.proofs.WordLemmas.{bad_answers, many_answers}

-- a word goes on with words
abbrev pub word_further : Further
word_further (Some (Word word)) = true
word_further (Some token) = false
word_further None = false

pub words_start : {V : Type 0} (Spells : List ℕ → V → Type 0) → Starts (OneWord Spells) word_further
words_start Spells limits tokens others value read =
    ap (λ (text : List Token). word_further (front (text ++ others))) read.1

pub words_grow : {V : Type 0} (Spells : List ℕ → V → Type 0) → Grows (OneWord Spells)
words_grow Spells limits which tokens value read = read

-- the word that another token begins with
front_word : (rest tokens others : List Token) (token : Option Token) (word : List ℕ) → front rest ≡ token
    → [] ++ rest ≡ tokens ++ others → tokens ≡ Word word ∷ [] → token ≡ Some (Word word)
front_word rest tokens others token word at same is =
    sym at ∙ ap front (same ∙ ap (λ (text : List Token). text ++ others) is)

-- where there is no room for a word: a token that is no such word
pub bad_full : {V : Type 0} (opening closing : Token) (Spells : List ℕ → V → Type 0) (Fit : Limits → List V → Type 0)
    (limits : Limits) (tokens left : List Placed) (values : List V) → word_further (Some closing) ≡ false
    → IsInside opening (OneWord Spells) word_further limits tokens left values → front_token left ≢ Some closing
    → ((word : List ℕ) (value : V) → front_token left ≡ Some (Word word) → Spells word value → ⊥) → Fit limits values
    → Faults (Bracketed opening closing (OneWord Spells) Fit) nothing_further limits tokens left None
bad_full opening closing Spells Fit limits tokens left values ends inside still none fit =
    inside_faults opening closing (OneWord Spells) Fit word_further limits tokens left left [] None values
    (words_grow Spells) ends inside refl (λ held fits. still)
    ([], [], refl, subst (λ all. Fit limits all) (sym (append-nil values)) fit) tt
    (λ held rest next tail others value more is_held at same read_next read_tail fits.
    none read_next.0 value
    (front_word rest next (tail ++ others) (front_token left) read_next.0 at same read_next.1) read_next.2)

-- or one word more than there may be
pub many_full : {V : Type 0} (opening closing : Token) (Spells : List ℕ → V → Type 0) (Fit : Limits → List V → Type 0)
    (limits : Limits) (tokens left : List Placed) (values : List V) (which : Counted) (word : List ℕ) (value : V)
    → word_further (Some closing) ≡ false
    → IsInside opening (OneWord Spells) word_further limits tokens left values → front_token left ≢ Some closing
    → front_token left ≡ Some (Word word) → Spells word value → Fit limits values
    → Fit (raised which limits) (values ++ value ∷ [])
    → ((held : Limits) (said : V) (more : List V) → held which ≡ limits which → Fit held (values ++ said ∷ more) → ⊥)
    → Faults (Bracketed opening closing (OneWord Spells) Fit) nothing_further limits tokens left (Some which)
many_full opening closing Spells Fit limits tokens left values which word value ends inside still at spelled fit over
    none =
    inside_faults opening closing (OneWord Spells) Fit word_further limits tokens left left [] (Some which) values
    (words_grow Spells) ends inside refl (λ held fits. still)
    ([], [], refl, subst (λ all. Fit limits all) (sym (append-nil values)) fit)
    (word, at, ([], value ∷ [], (Word word ∷ [], [], refl, (word, refl, spelled), refl), over))
    (λ held rest next tail others said more is_held at_rest same read_next read_tail fits.
    none held said more (held_one limits held (front_token left) which is_held) fits)

-- no token is both a word and a sign
pub word_no_sign : (token : Option Token) (word : List ℕ) (sign : ℕ) → token ≡ Some (Word word) → token ≢ Some (Mark
    sign)
word_no_sign token word sign at is = let same : Some (Word word) ≡ Some (Mark sign) = sym at ∙ is in absurd cc

few_more : {V : Type 0} (values more : List V) (value : V) (limit : ℕ) → limit ≤ length values
    → length (values ++ value ∷ more) ≤ limit → ⊥
few_more values more value limit full few = omega (arith, full, few, length-append values (value ∷ more))

few_one : {V : Type 0} (values : List V) (value : V) (limit : ℕ) → length values < limit
    → length (values ++ value ∷ []) ≤ limit
few_one values value limit room = omega (arith, room, length-append values (value ∷ []))

-- A LIST

-- where there is room a further word is the next value
pub word_is_next : {V : Type 0} (Spells : List ℕ → V → Type 0) (which : Counted) (limits : Limits) (values : List V)
    (lead : Option Token) → length values < limits which
    → IsNext (OneWord Spells) (OneWord Spells) (AreFew which) limits values lead
word_is_next Spells which limits values lead room = record {
  wider = λ held text value least read. (read, few_one values value (held which) (omega (arith, room, least which)));
  same = λ held text others value more at read fits. read;
}

abbrev pub InBrackets : {V : Type 0} → Counted → (List ℕ → V → Type 0) → Production (List V)
InBrackets which Spells = Bracketed opening_bracket closing_bracket (OneWord Spells) (AreFew which)

pub list_bad : {V : Type 0} (Spells : List ℕ → V → Type 0) (which : Counted) (limits : Limits)
    (tokens left : List Placed) (values : List V)
    → IsInside opening_bracket (OneWord Spells) word_further limits tokens left values
    → front_token left ≢ Some closing_bracket
    → ((word : List ℕ) (value : V) → front_token left ≡ Some (Word word) → Spells word value → ⊥)
    → length values ≤ limits which
    → Faults (InBrackets which Spells) nothing_further limits tokens left None
list_bad Spells which limits tokens left values inside still none few =
    bad_full opening_bracket closing_bracket Spells (AreFew which) limits tokens left values refl inside still none few

pub list_many : {V : Type 0} (Spells : List ℕ → V → Type 0) (which : Counted) (limits : Limits)
    (tokens left : List Placed) (values : List V) (word : List ℕ) (value : V)
    → IsInside opening_bracket (OneWord Spells) word_further limits tokens left values
    → front_token left ≢ Some closing_bracket → front_token left ≡ Some (Word word) → Spells word value
    → length values ≡ limits which
    → Faults (InBrackets which Spells) nothing_further limits tokens left (Some which)
list_many Spells which limits tokens left values word value inside still at spelled full =
    many_full opening_bracket closing_bracket Spells (AreFew which) limits tokens left values which word value refl
    inside
    still at spelled (omega (arith, full))
    (omega (arith, full, raised_one which limits, length-append values (value ∷ [])))
    (λ held said more same fits. few_more values more said (held which) (omega (arith, full, same)) fits)

-- what a list is begins with a bracket or not
pub list_bracketed : {V : Type 0} (Spells : List ℕ → V → Type 0) (which : Counted)
    → IsChosen (InBrackets which Spells) (ListOf which Spells) nothing_further (Some opening_bracket)
list_bracketed Spells which = record {
  wider = λ limits tokens value read. inr read;
  same = λ limits tokens others value at ends read. elim read as (λ _. InBrackets which Spells limits tokens value) [
    | inl one ↦ let word : Some (Word one.2.0) ≡ Some (Mark 91) =
        sym (ap (λ (text : List Token). front (text ++ others)) one.2.1) ∙ at in absurd cc
    | inr read ↦ read
  ];
}

pub list_single : {V : Type 0} (Spells : List ℕ → V → Type 0) (which : Counted) (lead : Option Token)
    → lead ≢ Some opening_bracket
    → IsChosen (Saying single (OneWord Spells)) (ListOf which Spells) nothing_further lead
list_single Spells which lead other_lead = record {
  wider = λ limits tokens value read. inl read;
  same = λ limits tokens others value at ends read.
      elim read as (λ _. Saying single (OneWord Spells) limits tokens value) [
        | inl one ↦ one
        | inr many ↦ absurd (other_lead (sym at ∙ ap (λ (text : List Token). front (text ++ others)) many.1))
      ];
}

-- THE ANSWERS OF A LIST'S READER

pub list_no_room : {V : Type 0} (Spells : List ℕ → V → Type 0) (which : Counted) (tokens left : List Placed)
    (end : Place) (limit : ℕ) (values : List V) (fault : ReadFault) → limit ≡ lines_have which
    → IsInside opening_bracket (OneWord Spells) word_further lines_have tokens left values
    → front_token left ≢ Some closing_bracket → length values ≤ limit → limit ≤ length values
    → IsNoRoom Spells left end limit fault
    → Answers {V = List V} (InBrackets which Spells) nothing_further lines_have tokens left end (Err fault)
list_no_room {V = V} Spells which tokens left end limit values fault is inside still few full no_room =
    elim no_room as (λ _. Answers {V = List V} (InBrackets which Spells) nothing_further lines_have tokens left end
    (Err fault)) [
      | inl many ↦ many_answers (InBrackets which Spells) nothing_further lines_have tokens left end fault which limit
          many.4 is
          (list_many Spells which lines_have tokens left values many.0 many.1 inside still many.2 many.3
          (omega (arith, is, few, full)))
      | inr bad ↦ bad_answers (InBrackets which Spells) nothing_further lines_have tokens left end fault bad.1
          (list_bad Spells which lines_have tokens left values inside still bad.0 (omega (arith, is, few)))
    ]

pub list_fault : {V : Type 0} (Spells : List ℕ → V → Type 0) (which : Counted) (tokens mid left : List Placed)
    (end : Place) (limit : ℕ) (values : List V) (fault : ReadFault) → limit ≡ lines_have which
    → IsInside opening_bracket (OneWord Spells) word_further lines_have tokens mid values
    → front_token mid ≢ Some closing_bracket → length values < limit
    → Answers {V = V} (OneWord Spells) nothing_further lines_have mid left end (Err fault)
    → Answers {V = List V} (InBrackets which Spells) nothing_further lines_have tokens left end (Err fault)
list_fault Spells which tokens mid left end limit values fault is inside still room answers =
    fault_answers (OneWord Spells) (InBrackets which Spells) nothing_further nothing_further lines_have mid tokens
    left end
    fault
    (λ over faults. next_faults opening_bracket closing_bracket (OneWord Spells) (OneWord Spells) (AreFew which)
    word_further lines_have tokens mid left over values (words_grow Spells) refl inside (λ held fits. still)
    (word_is_next Spells which lines_have values (front_token mid) (omega (arith, is, room))) faults)
    answers

pub list_read : {V : Type 0} (Spells : List ℕ → V → Type 0) (which : Counted) (tokens left behind : List Placed)
    (limit : ℕ) (values : List V) → limit ≡ lines_have which
    → IsInside opening_bracket (OneWord Spells) word_further lines_have tokens left values
    → front_token left ≡ Some closing_bracket → length values ≤ limit → behind ≡ behind_front left
    → Reads (InBrackets which Spells) nothing_further lines_have tokens behind values
list_read Spells which tokens left behind limit values is inside at few behind_is =
    subst (λ (rest : List Placed). Reads (InBrackets which Spells) nothing_further lines_have tokens rest values)
    (sym behind_is)
    (inside_read opening_bracket closing_bracket (OneWord Spells) (AreFew which) word_further lines_have tokens left
    values
    (words_start Spells) refl inside at (omega (arith, is, few)))

pub single_read : {V : Type 0} (Spells : List ℕ → V → Type 0) (tokens left : List Placed) (value : V)
    (all none : List V) → none ≡ [] → all ≡ none ++ value ∷ []
    → Reads (OneWord Spells) nothing_further lines_have tokens left value
    → Reads (Saying single (OneWord Spells)) nothing_further lines_have tokens left all
single_read Spells tokens left value all none none_is all_is read =
    subst (λ (values : List _). Reads (Saying single (OneWord Spells)) nothing_further lines_have tokens left values)
    (sym (all_is ∙ ap (λ (values : List _). values ++ value ∷ []) none_is))
    (saying_reads single (OneWord Spells) nothing_further lines_have tokens left value read)

-- the reader is behind the bracket
pub inside_begin : {V : Type 0} (opening : Token) (R : Production V) (starts : Further) (tokens left : List Placed)
    (values : List V) → front_token tokens ≡ Some opening → left ≡ behind_front tokens → values ≡ []
    → IsInside opening R starts lines_have tokens left values
inside_begin opening R starts tokens left values at left_is values_are =
    subst (λ (all : List _). IsInside opening R starts lines_have tokens left all) (sym values_are)
    (subst (λ (rest : List Placed). IsInside opening R starts lines_have tokens rest []) (sym left_is)
    (inside_none opening R starts lines_have tokens at))

-- and behind one value more
pub inside_goes_on : {V : Type 0} (opening : Token) (R : Production V) (starts : Further)
    (tokens mid left : List Placed) (values all : List V) (value : V) → Starts R starts
    → IsInside opening R starts lines_have tokens mid values → Reads R nothing_further lines_have mid left value
    → all ≡ values ++ value ∷ [] → IsInside opening R starts lines_have tokens left all
inside_goes_on opening R starts tokens mid left values all value begin inside read all_is =
    subst (λ (items : List _). IsInside opening R starts lines_have tokens left items) (sym all_is)
    (inside_more opening R starts lines_have tokens mid left values value begin inside read)

pub none_few : {V : Type 0} (values : List V) (limit : ℕ) → values ≡ [] → length values ≤ limit
none_few values limit is = omega (arith, ap length is)

pub one_few : {V : Type 0} (values all : List V) (value : V) (limit : ℕ) → all ≡ values ++ value ∷ []
    → length values < limit → length all ≤ limit
one_few values all value limit is room = omega (arith, ap length is, few_one values value limit room)

-- reading made the front token go
pub reads_less : {V : Type 0} (Spells : List ℕ → V → Type 0) (tokens left : List Placed) (value : V)
    → Reads (OneWord Spells) nothing_further lines_have tokens left value → length left < length tokens
reads_less Spells tokens left value ([], is, read) = absurd cc
reads_less Spells tokens left value (first ∷ before, is, read) =
    omega (arith, ap length is, length-append before left)
