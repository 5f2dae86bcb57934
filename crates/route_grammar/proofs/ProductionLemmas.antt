-- Productions that are put together: how what is read, or the first fault, of a part makes that of the whole.
use Rattle.std.proofs.Common.{ℕ, ◌≡◌, ◌≢◌, false, List, [], ◌∷◌, ◌++◌, Option, Some, None, ap, sym}
use Rattle.std.proofs.Common.{◌∙◌, refl, subst, append_assoc}
use Rattle.std.proofs.lemmas.List.{append_cancel_left}
use Rattle.token_reader.specs.Tokens.{Token, Word}
use Rattle.route_grammar.specs.Limits.{Counted, Limits, raised}
use Rattle.route_grammar.specs.Productions.{Production, front, Begins, Further, nothing_further, IsOver}
use Rattle.route_grammar.specs.Productions.{IsFault, IsRead, OneToken, OneWord, Then, Saying}

-- the front token of some tokens, or else that behind them
abbrev pub front_or : List Token → Option Token → Option Token
front_or [] token = token
front_or (first ∷ tokens) token = Some first

pub front_append : (before rest : List Token) → front (before ++ rest) ≡ front_or before (front rest)
front_append [] rest = refl
front_append (first ∷ before) rest = refl

-- the front of tokens behind which this token stands
pub front_at : (before rest : List Token) (token lead : Option Token) → front rest ≡ token → lead ≡ front_or before
    token
    → front (before ++ rest) ≡ lead
front_at before rest token lead at leads = front_append before rest ∙ ap (front_or before) at ∙ sym leads

-- tokens that are cut twice
pub cut_again : (whole tokens others first second : List Token) → whole ≡ tokens ++ others → tokens ≡ first ++ second
    → whole ≡ first ++ (second ++ others)
cut_again whole tokens others first second same is =
    same ∙ ap (λ (text : List Token). text ++ others) is ∙ append_assoc first second others

-- ONE WORD

word_same : (word other : List ℕ) (rest others : List Token) → Word word ∷ rest ≡ Word other ∷ others → other ≡ word
word_same word other rest others same = cc

pub one_word_read : {V : Type 0} (Spells : List ℕ → V → Type 0) (limits : Limits) (word : List ℕ)
    (token : Option Token) (value : V) → Spells word value → ((other : V) → Spells word other → other ≡ value)
    → IsRead (OneWord Spells) nothing_further limits (Word word ∷ []) token value
one_word_read Spells limits word token value spelled only = record {
  found = (word, refl, spelled);
  ends = refl;
  only = λ held rest tokens others said at same read none.
      let whole : Word word ∷ rest ≡ Word read.0 ∷ others =
      same ∙ ap (λ (text : List Token). text ++ others) read.1 in
      let is : read.0 ≡ word = word_same word read.0 rest others whole in (
        read.1 ∙ ap (λ (text : List ℕ). Word text ∷ []) is,
        only said (subst (λ (text : List ℕ). Spells text said) is read.2),
      );
}

pub one_word_fault : {V : Type 0} (Spells : List ℕ → V → Type 0) (limits : Limits) (token : Option Token)
    (word : List ℕ) (value : V) → Spells word value
    → ((text : List ℕ) (said : V) → token ≡ Some (Word text) → Spells text said → ⊥)
    → IsFault (OneWord Spells) nothing_further limits [] token None
one_word_fault Spells limits token word value spelled none = record {
  begins = (Word word ∷ [], value, (word, refl, spelled));
  none = λ held rest tokens others said is_held at same read ends.
      let whole : rest ≡ Word read.0 ∷ others = same ∙ ap (λ (text : List Token). text ++ others) read.1 in
      none read.0 said (sym at ∙ ap front whole) read.2;
  over_is = tt;
}

-- ONE TOKEN

pub one_token_read : (sign : Token) (limits : Limits) (token : Option Token)
    → IsRead (OneToken sign) nothing_further limits (sign ∷ []) token tt
one_token_read sign limits token = record {
  found = refl;
  ends = refl;
  only = λ held rest tokens others said at same read none. (read, refl);
}

pub one_token_fault : (sign : Token) (limits : Limits) (token : Option Token) → token ≢ Some sign
    → IsFault (OneToken sign) nothing_further limits [] token None
one_token_fault sign limits token other = record {
  begins = (sign ∷ [], tt, refl);
  none = λ held rest tokens others said is_held at same read ends.
      let whole : rest ≡ sign ∷ others = same ∙ ap (λ (text : List Token). text ++ others) read in
      other (sym at ∙ ap front whole);
  over_is = tt;
}

-- ONE AFTER ANOTHER

-- what the second production begins with, or what is behind it, doesn't go on with the first
abbrev pub Leads : {V W : Type 0} → Further → Further → (V → Production W) → Type 0
Leads {V = V} {W = W} first_further further S =
    (limits : Limits) (first : V) (tokens others : List Token) (value : W) → S first limits tokens value
    → further (front others) ≡ false → first_further (front (tokens ++ others)) ≡ false

pub leads_all : {V W : Type 0} (further : Further) (S : V → Production W) → Leads nothing_further further S
leads_all further S limits first tokens others value read ends = refl

-- under any limits there is something to read
abbrev pub HasReading : {V : Type 0} → Production V → Type 0
HasReading {V = V} R = (limits : Limits) → (tokens : List Token) × (value : V) × R limits tokens value

begins_then : {V W : Type 0} (R : Production V) (S : V → Production W) → ((first : V) → HasReading (S first))
    → (limits : Limits) (before : List Token) → Begins R limits before → Begins (Then R S) limits before
begins_then R S some limits before begins =
    let second = some begins.1 limits in (
      begins.0 ++ second.0,
      second.1,
      (
        begins.1,
        before ++ begins.0,
        second.0,
        sym (append_assoc before begins.0
            second.0),
        begins.2,
        second.2,
      ),
    )

over_then : {V W : Type 0} (R : Production V) (S : V → Production W) → ((first : V) → HasReading (S first))
    → (limits : Limits) (before : List Token) (token : Option Token) (over : Option Counted)
    → IsOver R limits before token over → IsOver (Then R S) limits before token over
over_then R S some limits before token None is = tt
over_then R S some limits before token (Some which) is =
    (is.0, is.1, begins_then R S some (raised which limits) (before ++ Word is.0 ∷ []) is.2)

pub then_fault_first : {V W : Type 0} (R : Production V) (S : V → Production W) (first_further further : Further)
    (limits : Limits) (before : List Token) (token : Option Token) (over : Option Counted)
    → Leads first_further further S → ((first : V) → HasReading (S first))
    → IsFault R first_further limits before token over → IsFault (Then R S) further limits before token over
then_fault_first R S first_further further limits before token over leads some fault = record {
  begins = begins_then R S some limits before fault.begins;
  none = λ held rest tokens others value is_held at same read ends.
      fault.none held rest read.1 (read.2 ++ others) read.0 is_held at
      (cut_again (before ++ rest) tokens others read.1 read.2 same read.3) read.4
      (leads held read.0 read.2 others value read.5 ends);
  over_is = over_then R S some limits before token over fault.over_is;
}

-- behind the first part, the second one has to be read from what is left
second_of : {V W : Type 0} (R : Production V) (S : V → Production W) (first_further further : Further) (limits : Limits)
    (before inner rest tokens others : List Token) (token lead : Option Token) (first : V) (value : W) (held : Limits)
    → IsRead R first_further limits before lead first → lead ≡ front_or inner token → Leads first_further further S
    → front rest ≡ token → (before ++ inner) ++ rest ≡ tokens ++ others → Then R S held tokens value
    → further (front others) ≡ false
    → (back : List Token) × (tokens ≡ before ++ back) × (inner ++ rest ≡ back ++ others) × S first held back value
second_of R S first_further further limits before inner rest tokens others token lead first value held first_read
    leads_is
    leads at same read ends =
    let whole = sym (append_assoc before inner rest) ∙ cut_again ((before ++ inner) ++ rest) tokens others read.1 read.2
    same read.3 in
    let one = first_read.only held (inner ++ rest) read.1 (read.2 ++ others) read.0
    (front_at inner rest token lead at leads_is) whole read.4 (leads held read.0 read.2 others value read.5 ends) in
    let cut : before ++ (inner ++ rest) ≡ before ++ (read.2 ++ others) =
    whole ∙ ap (λ (text : List Token). text ++ (read.2 ++ others)) one.0 in (
      read.2,
      read.3 ∙ ap (λ (text : List Token). text ++ read.2) one.0,
      append_cancel_left before (inner ++ rest) (read.2 ++ others) cut,
      subst (λ said. S said held read.2 value) one.1 read.5,
    )

-- what is read is read with a limit raised too
abbrev pub Grows : {V : Type 0} → Production V → Type 0
Grows {V = V} R =
    (limits : Limits) (which : Counted) (tokens : List Token) (value : V) → R limits tokens value
    → R (raised which limits) tokens value

over_behind : {V W : Type 0} (R : Production V) (S : V → Production W) (limits : Limits) (before inner : List Token)
    (token : Option Token) (first : V) (over : Option Counted)
    → Grows R → R limits before first → IsOver (S first) limits inner token over
    → IsOver (Then R S) limits (before ++ inner) token over
over_behind R S limits before inner token first None grows found is = tt
over_behind R S limits before inner token first (Some which) grows found is = (
  is.0,
  is.1,
  (
    is.2.0,
    is.2.1,
    (
      first,
      before,
      (inner ++ Word is.0 ∷ []) ++ is.2.0,
      ap (λ (text : List Token). text ++ is.2.0) (append_assoc before inner (Word is.0 ∷ []))
          ∙ append_assoc before (inner ++ Word is.0 ∷ []) is.2.0,
      grows limits which before first found,
      is.2.2,
    ),
  ),
)

pub then_fault_second : {V W : Type 0} (R : Production V) (S : V → Production W) (first_further further : Further)
    (limits : Limits) (before inner : List Token) (token lead : Option Token) (first : V) (over : Option Counted)
    → Leads first_further further S → Grows R → IsRead R first_further limits before lead first
    → lead ≡ front_or inner token → IsFault (S first) further limits inner token over
    → IsFault (Then R S) further limits (before ++ inner) token over
then_fault_second R S first_further further limits before inner token lead first over leads grows first_read leads_is
    fault = record {
      begins = (
        fault.begins.0,
        fault.begins.1,
        (
          first,
          before,
          inner ++ fault.begins.0,
          append_assoc before inner fault.begins.0,
          first_read.found,
          fault.begins.2,
        ),
      );
      none = λ held rest tokens others value is_held at same read ends.
          let second = second_of R S first_further further limits before inner rest tokens others token lead first value
          held
          first_read leads_is leads at same read ends in
          fault.none held rest second.0 others value is_held at second.2 second.3 ends;
      over_is = over_behind R S limits before inner token first over grows first_read.found fault.over_is;
    }

pub then_read : {V W : Type 0} (R : Production V) (S : V → Production W) (first_further further : Further)
    (limits : Limits) (before inner : List Token) (token lead : Option Token) (first : V) (value : W)
    → Leads first_further further S → IsRead R first_further limits before lead first → lead ≡ front_or inner token
    → IsRead (S first) further limits inner token value
    → IsRead (Then R S) further limits (before ++ inner) token value
then_read R S first_further further limits before inner token lead first value leads first_read leads_is second_read =
    record {
      found = (first, before, inner, refl, first_read.found, second_read.found);
      ends = second_read.ends;
      only = λ held rest tokens others said at same read ends.
          let second = second_of R S first_further further limits before inner rest tokens others token lead first said
          held first_read leads_is leads at same read ends in
          let is = second_read.only held rest second.0 others said at second.2 second.3 ends in
          (second.1 ∙ ap (λ (text : List Token). before ++ text) is.0, is.1);
    }

-- IN OTHER WORDS

pub saying_read : {V W : Type 0} (say : V → W) (R : Production V) (further : Further) (limits : Limits)
    (before : List Token) (token : Option Token) (value : V) → IsRead R further limits before token value
    → IsRead (Saying say R) further limits before token (say value)
saying_read say R further limits before token value read = record {
  found = (value, refl, read.found);
  ends = read.ends;
  only = λ held rest tokens others said at same other ends.
      let is = read.only held rest tokens others other.0 at same other.2 ends in
      (is.0, other.1 ∙ ap say is.1);
}

saying_over : {V W : Type 0} (say : V → W) (R : Production V) (limits : Limits) (before : List Token)
    (token : Option Token) (over : Option Counted) → IsOver R limits before token over
    → IsOver (Saying say R) limits before token over
saying_over say R limits before token None is = tt
saying_over say R limits before token (Some which) is =
    (is.0, is.1, (is.2.0, say is.2.1, (is.2.1, refl, is.2.2)))

pub saying_fault : {V W : Type 0} (say : V → W) (R : Production V) (further : Further) (limits : Limits)
    (before : List Token) (token : Option Token) (over : Option Counted) → IsFault R further limits before token over
    → IsFault (Saying say R) further limits before token over
saying_fault say R further limits before token over fault = record {
  begins = (fault.begins.0, say fault.begins.1, (fault.begins.1, refl, fault.begins.2));
  none = λ held rest tokens others value is_held at same read ends.
      fault.none held rest tokens others read.0 is_held at same read.2 ends;
  over_is = saying_over say R limits before token over fault.over_is;
}

-- A CHOICE BY THE FRONT TOKEN

-- what tokens that begin with this one say in one of two productions they say in the other, too
pub record IsChosen {V : Type 0} (R T : Production V) (further : Further) (lead : Option Token) : Type 0 where
  pub wider : (limits : Limits) (tokens : List Token) (value : V) → R limits tokens value → T limits tokens value
  pub same : (limits : Limits) (tokens others : List Token) (value : V) → front (tokens ++ others) ≡ lead
      → further (front others) ≡ false → T limits tokens value → R limits tokens value

-- such tokens begin with that one
lead_same : (before rest tokens others : List Token) (token lead : Option Token) → front rest ≡ token
    → lead ≡ front_or before token → before ++ rest ≡ tokens ++ others → front (tokens ++ others) ≡ lead
lead_same before rest tokens others token lead at leads same = ap front (sym same) ∙ front_at before rest token lead
    at leads

pub chosen_read : {V : Type 0} (R T : Production V) (further : Further) (limits : Limits) (before : List Token)
    (token lead : Option Token) (value : V) → IsChosen R T further lead → lead ≡ front_or before token
    → IsRead R further limits before token value → IsRead T further limits before token value
chosen_read R T further limits before token lead value chosen leads read = record {
  found = chosen.wider limits before value read.found;
  ends = read.ends;
  only = λ held rest tokens others said at same other ends.
      read.only held rest tokens others said at same
      (chosen.same held tokens others said (lead_same before rest tokens others token lead at leads same) ends other)
      ends;
}

chosen_over : {V : Type 0} (R T : Production V) (further : Further) (limits : Limits) (before : List Token)
    (token lead : Option Token) (over : Option Counted) → IsChosen R T further lead
    → IsOver R limits before token over → IsOver T limits before token over
chosen_over R T further limits before token lead None chosen is = tt
chosen_over R T further limits before token lead (Some which) chosen is = (
  is.0,
  is.1,
  (is.2.0, is.2.1, chosen.wider (raised which limits) ((before ++ Word is.0 ∷ []) ++ is.2.0) is.2.1 is.2.2),
)

pub chosen_fault : {V : Type 0} (R T : Production V) (further : Further) (limits : Limits) (before : List Token)
    (token lead : Option Token) (over : Option Counted) → IsChosen R T further lead → lead ≡ front_or before token
    → IsFault R further limits before token over → IsFault T further limits before token over
chosen_fault R T further limits before token lead over chosen leads fault = record {
  begins = (
    fault.begins.0,
    fault.begins.1,
    chosen.wider limits (before ++ fault.begins.0) fault.begins.1 fault.begins.2,
  );
  none = λ held rest tokens others value is_held at same read ends.
      fault.none held rest tokens others value is_held at same
      (chosen.same held tokens others value (lead_same before rest tokens others token lead at leads same) ends read)
      ends;
  over_is = chosen_over R T further limits before token lead over chosen fault.over_is;
}

-- at the first token, where no reading begins with it
pub none_fault : {V : Type 0} (T : Production V) (further : Further) (limits : Limits) (token : Option Token)
    → HasReading T
    → ((held : Limits) (tokens others : List Token) (value : V) → front (tokens ++ others) ≡ token
    → T held tokens value → further (front others) ≡ false → ⊥)
    → IsFault T further limits [] token None
none_fault T further limits token some none = record {
  begins = some limits;
  none = λ held rest tokens others value is_held at same read ends.
      none held tokens others value (ap front (sym same) ∙ at) read ends;
  over_is = tt;
}
