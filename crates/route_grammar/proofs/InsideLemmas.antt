-- A reader within brackets: the tokens from the opening sign on, those that are left, and the values so far.
use Rattle.std.proofs.Common.{ℕ, ◌≡◌, ◌≢◌, ◌≤◌, false, List, [], ◌∷◌, ◌++◌, Option, Some, None, ap, sym, ◌∙◌, refl}
use Rattle.std.proofs.Common.{subst}
use Rattle.std.proofs.Common.{append_assoc, append-nil, arith}
use Rattle.token_reader.specs.Tokens.{Token, Word, Placed, front_token, behind_front}
use Rattle.route_grammar.specs.Limits.{Counted, Limits, raised}
use Rattle.route_grammar.specs.Productions.{Production, Further, nothing_further, front, Begins, IsHeld, IsOver, IsRead}
use Rattle.route_grammar.specs.Productions.{IsFault, Repeated, Bracketed}
use Rattle.route_grammar.specs.Answered.{tokens_of, Faults, Reads}
use Rattle.route_grammar.proofs.LimitLemmas.{raised_more}
use Rattle.route_grammar.proofs.ProductionLemmas.{front_at, Grows}
use Rattle.route_grammar.proofs.AnsweredLemmas.{tokens_append, lead_of}
use Rattle.route_grammar.proofs.RepeatedLemmas.{Starts, AreSoFar, none_so_far, one_so_far, repeated_append}
use Rattle.route_grammar.proofs.RepeatedLemmas.{repeated_grows, bracketed_read, bracketed_fault}

-- the opening sign and values behind it were passed
pub record IsInside {V : Type 0} (opening : Token) (R : Production V) (starts : Further) (limits : Limits)
    (tokens left : List Placed) (values : List V) : Type 0 where
  pub sign : Placed
  pub inner : List Placed
  pub sign_is : sign.token ≡ opening
  pub tokens_are : tokens ≡ sign ∷ (inner ++ left)
  pub so_far : AreSoFar R starts limits (tokens_of inner) (front_token left) values

front_is : (first other : Token) → Some first ≡ Some other → first ≡ other
front_is first other same = cc

pub inside_none : {V : Type 0} (opening : Token) (R : Production V) (starts : Further) (limits : Limits)
    (tokens : List Placed) → front_token tokens ≡ Some opening
    → IsInside opening R starts limits tokens (behind_front tokens) []
inside_none opening R starts limits [] at = absurd cc
inside_none opening R starts limits (first ∷ others) at = record {
  sign = first;
  inner = [];
  sign_is = front_is first.token opening at;
  tokens_are = refl;
  so_far = none_so_far R starts limits (front_token others);
}

pub inside_more : {V : Type 0} (opening : Token) (R : Production V) (starts : Further) (limits : Limits)
    (tokens mid left : List Placed) (values : List V) (value : V) → Starts R starts
    → IsInside opening R starts limits tokens mid values → Reads R nothing_further limits mid left value
    → IsInside opening R starts limits tokens left (values ++ value ∷ [])
inside_more opening R starts limits tokens mid left values value begin inside read = record {
  sign = inside.sign;
  inner = inside.inner ++ read.0;
  sign_is = inside.sign_is;
  tokens_are = inside.tokens_are ∙ ap (λ (rest : List Placed). inside.sign ∷ (inside.inner ++ rest)) read.1
      ∙ ap (λ (rest : List Placed). inside.sign ∷ rest) (sym (append_assoc inside.inner read.0 left));
  so_far = subst (λ (before : List Token). AreSoFar R starts limits before (front_token left) (values ++ value ∷ []))
      (sym (tokens_append inside.inner read.0))
      (one_so_far R starts limits (tokens_of inside.inner) (tokens_of read.0) (front_token left) (front_token mid)
      values
      value begin inside.so_far (lead_of mid left read.0 read.1) read.2);
}

-- the tokens from the opening sign to the closing one
closed_tokens : (sign : Placed) (inner : List Placed) (last : Placed) (opening closing : Token) → sign.token ≡ opening
    → last.token ≡ closing
    → opening ∷ (tokens_of inner ++ closing ∷ []) ≡ tokens_of (sign ∷ (inner ++ last ∷ []))
closed_tokens sign inner last opening closing sign_is last_is =
    ap (λ (token : Token). token ∷ (tokens_of inner ++ closing ∷ [])) (sym sign_is)
    ∙ ap (λ (token : Token). sign.token ∷ (tokens_of inner ++ token ∷ [])) (sym last_is)
    ∙ ap (λ (rest : List Token). sign.token ∷ rest) (sym (tokens_append inner (last ∷ [])))

pub inside_read : {V : Type 0} (opening closing : Token) (R : Production V) (Fit : Limits → List V → Type 0)
    (starts : Further) (limits : Limits) (tokens left : List Placed) (values : List V) → Starts R starts
    → starts (Some closing) ≡ false → IsInside opening R starts limits tokens left values
    → front_token left ≡ Some closing → Fit limits values
    → Reads (Bracketed opening closing R Fit) nothing_further limits tokens (behind_front left) values
inside_read opening closing R Fit starts limits tokens [] values begin ends inside at fit = absurd cc
inside_read opening closing R Fit starts limits tokens (last ∷ others) values begin ends inside at fit = (
  inside.sign ∷ (inside.inner ++ last ∷ []),
  inside.tokens_are ∙ ap (λ (rest : List Placed). inside.sign ∷ rest) (sym (append_assoc inside.inner (last ∷ [])
      others)),
  subst (λ (before : List Token). IsRead (Bracketed opening closing R Fit) nothing_further limits before
      (front_token others) values)
      (closed_tokens inside.sign inside.inner last opening closing inside.sign_is (front_is last.token closing at))
      (bracketed_read opening closing R Fit starts limits (tokens_of inside.inner) (front_token others)
      values begin ends
      (subst (λ token. AreSoFar R starts limits (tokens_of inside.inner) token values) at inside.so_far) fit),
)

-- further tokens behind these make readings with which the values meet the condition
abbrev pub Completes : {V : Type 0} → Production V → (Limits → List V → Type 0) → Limits → List V → List Token → Type 0
Completes {V = V} R Fit limits values text =
    (back : List Token) × (more : List V) × Repeated R limits (text ++ back) more × Fit limits (values ++ more)

pub completes_begins : {V : Type 0} (opening closing : Token) (R : Production V) (Fit : Limits → List V → Type 0)
    (limits : Limits) (inner text : List Token) (values : List V) → Repeated R limits inner values
    → Completes R Fit limits values text
    → Begins (Bracketed opening closing R Fit) limits (opening ∷ (inner ++ text))
completes_begins opening closing R Fit limits inner text values read completes = (
  completes.0 ++ closing ∷ [],
  values ++ completes.1,
  (
    inner ++ (text ++ completes.0),
    ap (λ (rest : List Token). opening ∷ rest)
        (append_assoc inner text (completes.0 ++ closing ∷ [])
        ∙ ap (λ (rest : List Token). inner ++ rest) (sym (append_assoc text completes.0 (closing ∷ [])))
        ∙ sym (append_assoc inner (text ++ completes.0) (closing ∷ []))),
    repeated_append R limits inner (text ++ completes.0) values completes.1 read completes.2,
    completes.3,
  ),
)

-- a word that is one element too many, with which the values meet the condition where its limit is raised
abbrev pub IsOneOver : {V : Type 0} → Production V → (Limits → List V → Type 0) → Limits → List V → List Token
    → Option Token → Option Counted → Type 0
IsOneOver R Fit limits values text token None = Unit {0}
IsOneOver R Fit limits values text token (Some which) =
    (word : List ℕ) × (token ≡ Some (Word word)) × Completes R Fit (raised which limits) values (text ++ Word word ∷ [])

over_inside : {V : Type 0} (opening closing : Token) (R : Production V) (Fit : Limits → List V → Type 0)
    (limits : Limits) (inner text : List Token) (token : Option Token) (over : Option Counted) (values : List V) →
    Grows R
    → Repeated R limits inner values → IsOneOver R Fit limits values text token over
    → IsOver (Bracketed opening closing R Fit) limits (opening ∷ (inner ++ text)) token over
over_inside opening closing R Fit limits inner text token None values grows read is = tt
over_inside opening closing R Fit limits inner text token (Some which) values grows read is = (
  is.0,
  is.1,
  subst (λ (before : List Token). Begins (Bracketed opening closing R Fit) (raised which limits) before)
      (ap (λ (rest : List Token). opening ∷ rest) (sym (append_assoc inner text (Word is.0 ∷ []))))
      (completes_begins opening closing R Fit (raised which limits) inner (text ++ Word is.0 ∷ []) values
      (repeated_grows R grows limits which inner values read) is.2),
)

open_tokens : (sign : Placed) (inner text : List Placed) (opening : Token) → sign.token ≡ opening
    → opening ∷ (tokens_of inner ++ tokens_of text) ≡ tokens_of (sign ∷ (inner ++ text))
open_tokens sign inner text opening sign_is =
    ap (λ (token : Token). token ∷ (tokens_of inner ++ tokens_of text)) (sym sign_is)
    ∙ ap (λ (rest : List Token). sign.token ∷ rest) (sym (tokens_append inner text))

pub inside_faults : {V : Type 0} (opening closing : Token) (R : Production V) (Fit : Limits → List V → Type 0)
    (starts : Further) (limits : Limits) (tokens mid left text : List Placed) (over : Option Counted) (values : List V)
    → Grows R → starts (Some closing) ≡ false → IsInside opening R starts limits tokens mid values → mid ≡ text ++ left
    → ((held : Limits) → Fit held values → front_token mid ≢ Some closing)
    → Completes R Fit limits values (tokens_of text)
    → IsOneOver R Fit limits values (tokens_of text) (front_token left) over
    → ((held : Limits) (rest next tail others : List Token) (value : V) (more : List V)
    → IsHeld limits (front_token left) over held → front rest ≡ front_token left
    → tokens_of text ++ rest ≡ next ++ (tail ++ others) → R held next value → Repeated R held tail more
    → Fit held (values ++ value ∷ more) → ⊥)
    → Faults (Bracketed opening closing R Fit) nothing_further limits tokens left over
inside_faults opening closing R Fit starts limits tokens mid left text over values grows ends inside mid_is still
    completes
    over_is none = (
      inside.sign ∷ (inside.inner ++ text),
      inside.tokens_are ∙ ap (λ (rest : List Placed). inside.sign ∷ (inside.inner ++ rest)) mid_is
          ∙ ap (λ (rest : List Placed). inside.sign ∷ rest) (sym (append_assoc inside.inner text left)),
      subst (λ (before : List Token). IsFault (Bracketed opening closing R Fit) nothing_further limits before
          (front_token left) over)
          (open_tokens inside.sign inside.inner text opening inside.sign_is)
          (bracketed_fault opening closing R Fit starts limits (tokens_of inside.inner) (tokens_of text)
          (front_token left)
          (front_token mid) over values ends inside.so_far (lead_of mid left text mid_is) still
          (completes_begins opening closing R Fit limits (tokens_of inside.inner) (tokens_of text) values
          inside.so_far.found
          completes)
          (over_inside opening closing R Fit limits (tokens_of inside.inner) (tokens_of text) (front_token
          left) over values
          grows
          inside.so_far.found over_is)
          none),
    )

-- What reads just that which goes on with these values, where it begins with this token, and meets the condition with
-- them.
pub record IsNext {V : Type 0} (S R : Production V) (Fit : Limits → List V → Type 0) (limits : Limits)
    (values : List V) (lead : Option Token) : Type 0 where
  pub wider : (held : Limits) (text : List Token) (value : V) → ((one : Counted) → limits one ≤ held one)
      → S held text value → R held text value × Fit held (values ++ value ∷ [])
  pub same : (held : Limits) (text others : List Token) (value : V) (more : List V) → front (text ++ others) ≡ lead
      → R held text value → Fit held (values ++ value ∷ more) → S held text value

one_completes : {V : Type 0} (S R : Production V) (Fit : Limits → List V → Type 0) (limits held : Limits)
    (values : List V) (lead : Option Token) (text back : List Token) (value : V)
    → ((one : Counted) → limits one ≤ held one) → IsNext S R Fit limits values lead → S held (text ++ back) value →
    Completes R Fit held values text
one_completes S R Fit limits held values lead text back value least next read =
    let wide = next.wider held (text ++ back) value least read in
    (back, value ∷ [], (text ++ back, [], sym (append-nil (text ++ back)), wide.0, refl), wide.1)

one_over : {V : Type 0} (S R : Production V) (Fit : Limits → List V → Type 0) (limits : Limits) (values : List V)
    (lead : Option Token) (text : List Token) (token : Option Token) (over : Option Counted)
    → IsNext S R Fit limits values lead → IsOver S limits text token over → IsOneOver R Fit limits values text token
    over
one_over S R Fit limits values lead text token None next is = tt
one_over S R Fit limits values lead text token (Some which) next is = (
  is.0,
  is.1,
  one_completes S R Fit limits (raised which limits) values lead (text ++ Word is.0 ∷ []) is.2.0 is.2.1
      (λ one. raised_more which one limits) next is.2.2,
)

pub next_faults : {V : Type 0} (opening closing : Token) (S R : Production V) (Fit : Limits → List V → Type 0)
    (starts : Further) (limits : Limits) (tokens mid left : List Placed) (over : Option Counted) (values : List V)
    → Grows R → starts (Some closing) ≡ false → IsInside opening R starts limits tokens mid values
    → ((held : Limits) → Fit held values → front_token mid ≢ Some closing)
    → IsNext S R Fit limits values (front_token mid)
    → Faults S nothing_further limits mid left over
    → Faults (Bracketed opening closing R Fit) nothing_further limits tokens left over
next_faults opening closing S R Fit starts limits tokens mid left over values grows ends inside still next faults =
    inside_faults opening closing R Fit starts limits tokens mid left faults.0 over values grows ends inside faults.1
    still
    (one_completes S R Fit limits limits values (front_token mid) (tokens_of faults.0) faults.2.begins.0
    faults.2.begins.1
    (λ one. omega arith) next faults.2.begins.2)
    (one_over S R Fit limits values (front_token mid) (tokens_of faults.0) (front_token left) over next
    faults.2.over_is)
    (λ held rest text tail others value more is_held at same read_text read_tail fits.
    faults.2.none held rest text (tail ++ others) value is_held at same
    (next.same held text (tail ++ others) value more
    (ap front (sym same) ∙ front_at (tokens_of faults.0) rest (front_token left) (front_token mid) at
    (lead_of mid left faults.0 faults.1)) read_text fits)
    refl)
