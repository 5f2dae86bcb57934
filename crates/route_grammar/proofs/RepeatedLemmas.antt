-- Readings of a production that are put end to end, and what stands between two signs.
use Rattle.std.proofs.Common.{◌≡◌, ◌≢◌, true, false, List, [], ◌∷◌, ◌++◌, Option, Some, ap, sym}
use Rattle.std.proofs.Common.{◌∙◌, refl, subst, append_assoc, append-nil}
use Rattle.std.proofs.lemmas.List.{append_cancel_left}
use Rattle.std.proofs.lemmas.Bool.{false≢true}
use Rattle.token_reader.specs.Tokens.{Token}
use Rattle.route_grammar.specs.Limits.{Counted, Limits, raised}
use Rattle.route_grammar.specs.Productions.{Production, front, Begins, Further, nothing_further, IsHeld, IsOver}
use Rattle.route_grammar.specs.Productions.{IsFault, IsRead, Repeated, Bracketed}
use Rattle.route_grammar.proofs.ProductionLemmas.{front_or, front_at, Grows}

-- each reading begins with a token that goes on
abbrev pub Starts : {V : Type 0} → Production V → Further → Type 0
Starts {V = V} R starts =
    (limits : Limits) (tokens others : List Token) (value : V) → R limits tokens value
    → starts (front (tokens ++ others)) ≡ true

-- Tokens that are read as these values, behind which more may come: whatever is read of tokens that begin so, and ends
-- before a token that doesn't go on, begins with them.
pub record AreSoFar {V : Type 0} (R : Production V) (starts : Further) (limits : Limits) (before : List Token)
    (token : Option Token) (values : List V) : Type 0 where
  pub found : Repeated R limits before values
  pub only : (held : Limits) (rest tokens others : List Token) (said : List V) → front rest ≡ token
      → before ++ rest ≡ tokens ++ others → Repeated R held tokens said → starts (front others) ≡ false
      → (more : List V) × (back : List Token) × (said ≡ values ++ more) × (tokens ≡ before ++ back)
      × (rest ≡ back ++ others) × Repeated R held back more

-- two rows of readings, put end to end
pub repeated_append : {V : Type 0} (R : Production V) (limits : Limits) (before back : List Token)
    (values more : List V) → Repeated R limits before values → Repeated R limits back more
    → Repeated R limits (before ++ back) (values ++ more)
repeated_append R limits before back [] more read further =
    subst (λ (tokens : List Token). Repeated R limits tokens more)
    (sym (ap (λ (tokens : List Token). tokens ++ back) read)) further
repeated_append R limits before back (first ∷ values) more read further = (
  read.0,
  read.1 ++ back,
  ap (λ (tokens : List Token). tokens ++ back) read.2 ∙ append_assoc read.0 read.1 back,
  read.3,
  repeated_append R limits read.1 back values more read.4 further,
)

pub repeated_grows : {V : Type 0} (R : Production V) → Grows R → (limits : Limits) (which : Counted) (before : List
    Token)
    (values : List V) → Repeated R limits before values → Repeated R (raised which limits) before values
repeated_grows R grows limits which before [] read = read
repeated_grows R grows limits which before (first ∷ values) read = (
  read.0,
  read.1,
  read.2,
  grows limits which read.0 first read.3,
  repeated_grows R grows limits which read.1 values read.4,
)

pub none_so_far : {V : Type 0} (R : Production V) (starts : Further) (limits : Limits) (token : Option Token)
    → AreSoFar R starts limits [] token []
none_so_far R starts limits token = record {
  found = refl;
  only = λ held rest tokens others said at same read ends. (said, tokens, refl, refl, same, read);
}

-- readings put end to end, and one more
pub repeated_more : {V : Type 0} (R : Production V) (limits : Limits) (before text : List Token) (values : List V)
    (value : V) → Repeated R limits before values → R limits text value
    → Repeated R limits (before ++ text) (values ++ value ∷ [])
repeated_more R limits before text [] value read one = (
  text,
  [],
  ap (λ (tokens : List Token). tokens ++ text) read ∙ sym (append-nil text),
  one,
  refl,
)
repeated_more R limits before text (first ∷ values) value read one = (
  read.0,
  read.1 ++ text,
  ap (λ (tokens : List Token). tokens ++ text) read.2 ∙ append_assoc read.0 read.1 text,
  read.3,
  repeated_more R limits read.1 text values value read.4 one,
)

-- what goes on behind a reading begins with the next one
one_more : {V : Type 0} (R : Production V) (starts : Further) (limits held : Limits)
    (text rest back others : List Token) (token : Option Token) (value : V) (more : List V) → Starts R starts
    → IsRead R nothing_further limits text token value → front rest ≡ token → text ++ rest ≡ back ++ others
    → Repeated R held back more → starts (front others) ≡ false
    → (further : List V) × (tail : List Token) × (more ≡ value ∷ further) × (back ≡ text ++ tail)
    × (rest ≡ tail ++ others) × Repeated R held tail further
one_more R starts limits held text rest back others token value [] begin one at same read ends =
    let alone : text ++ rest ≡ others = same ∙ ap (λ (tokens : List Token). tokens ++ others) read in
    absurd (false≢true (sym ends ∙ ap (λ (tokens : List Token). starts (front tokens)) (sym alone)
    ∙ begin limits text rest value one.found))
one_more R starts limits held text rest back others token value (said ∷ more) begin one at same read ends =
    let whole : text ++ rest ≡ read.0 ++ (read.1 ++ others) =
    same ∙ ap (λ (tokens : List Token). tokens ++ others) read.2 ∙ append_assoc read.0 read.1 others in
    let is = one.only held rest read.0 (read.1 ++ others) said at whole read.3 refl in
    let cut : text ++ rest ≡ text ++ (read.1 ++ others) =
    whole ∙ ap (λ (tokens : List Token). tokens ++ (read.1 ++ others)) is.0 in (
      more,
      read.1,
      ap (λ (first : _). first ∷ more) is.1,
      read.2 ∙ ap (λ (tokens : List Token). tokens ++ read.1) is.0,
      append_cancel_left text rest (read.1 ++ others) cut,
      read.4,
    )

pub one_so_far : {V : Type 0} (R : Production V) (starts : Further) (limits : Limits) (before text : List Token)
    (token lead : Option Token) (values : List V) (value : V) → Starts R starts
    → AreSoFar R starts limits before lead values → lead ≡ front_or text token
    → IsRead R nothing_further limits text token value
    → AreSoFar R starts limits (before ++ text) token (values ++ value ∷ [])
one_so_far R starts limits before text token lead values value begin so_far leads one = record {
  found = repeated_more R limits before text values value so_far.found one.found;
  only = λ held rest tokens others said at same read ends.
      let first = so_far.only held (text ++ rest) tokens others said (front_at text rest token lead at leads)
      (sym (append_assoc before text rest) ∙ same) read ends in
      let next = one_more R starts limits held text rest first.1 others token value first.0 begin one at first.4 first.5
      ends in (
        next.0,
        next.1,
        first.2 ∙ ap (λ (more : List _). values ++ more) next.2 ∙ sym (append_assoc values (value ∷ []) next.0),
        first.3 ∙ ap (λ (more : List Token). before ++ more) next.3 ∙ sym (append_assoc before text next.1),
        next.4,
        next.5,
      );
}

-- BETWEEN TWO SIGNS

tail_same : (first other : Token) (rest others : List Token) → first ∷ rest ≡ other ∷ others → rest ≡ others
tail_same first other rest others same = cc

-- the part between the signs, of tokens that begin with the first sign
inside : (opening closing : Token) (rest tokens others inner : List Token) → opening ∷ rest ≡ tokens ++ others
    → tokens ≡ opening ∷ (inner ++ closing ∷ []) → rest ≡ inner ++ (closing ∷ others)
inside opening closing rest tokens others inner same is =
    tail_same opening opening rest ((inner ++ closing ∷ []) ++ others)
    (same ∙ ap (λ (text : List Token). text ++ others) is) ∙ append_assoc inner (closing ∷ []) others

-- where no more readings come, the closing sign is next
closed_front : (closing : Token) (rest others : List Token) (token : Option Token) → front rest ≡ token
    → rest ≡ closing ∷ others → token ≡ Some closing
closed_front closing rest others token at is = sym at ∙ ap front is

-- a reading doesn't begin with the closing sign
no_more : {V : Type 0} (R : Production V) (starts : Further) (closing : Token) (held : Limits)
    (rest back others : List Token) (more : List V) → Starts R starts → starts (Some closing) ≡ false
    → closing ∷ rest ≡ back ++ others → Repeated R held back more → (more ≡ []) × (back ≡ [])
no_more R starts closing held rest back others [] begin ends same read = (refl, read)
no_more R starts closing held rest back others (value ∷ more) begin ends same read =
    let whole : closing ∷ rest ≡ read.0 ++ (read.1 ++ others) =
    same ∙ ap (λ (tokens : List Token). tokens ++ others) read.2 ∙ append_assoc read.0 read.1 others in
    absurd (false≢true (sym ends ∙ ap (λ (tokens : List Token). starts (front tokens)) whole
    ∙ begin held read.0 (read.1 ++ others) value read.3))

pub bracketed_read : {V : Type 0} (opening closing : Token) (R : Production V) (Fit : Limits → List V → Type 0)
    (starts : Further) (limits : Limits) (inner : List Token) (token : Option Token) (values : List V) → Starts R starts
    → starts (Some closing) ≡ false → AreSoFar R starts limits inner (Some closing) values → Fit limits values
    → IsRead (Bracketed opening closing R Fit) nothing_further limits (opening ∷ (inner ++ closing ∷ [])) token values
bracketed_read opening closing R Fit starts limits inner token values begin ends so_far fit = record {
  found = (inner, refl, so_far.found, fit);
  ends = refl;
  only = λ held rest tokens others said at same read none.
      let whole : inner ++ (closing ∷ rest) ≡ read.0 ++ (closing ∷ others) =
      sym (append_assoc inner (closing ∷ []) rest)
      ∙ inside opening closing ((inner ++ closing ∷ []) ++ rest) tokens others read.0 same read.1 in
      let more = so_far.only held (closing ∷ rest) read.0 (closing ∷ others) said refl whole read.2 ends in
      let nothing = no_more R starts closing held rest more.1 (closing ∷ others) more.0 begin ends more.4 more.5 in
      let text : read.0 ≡ inner =
      more.3 ∙ ap (λ (tail : List Token). inner ++ tail) nothing.1 ∙ append-nil inner in (
        read.1 ∙ ap (λ (tail : List Token). opening ∷ (tail ++ closing ∷ [])) text,
        more.2 ∙ ap (λ (tail : List _). values ++ tail) nothing.0 ∙ append-nil values,
      );
}

-- what goes on before the closing sign, where that isn't next, is a reading and further ones
behind_readings : {V : Type 0} (closing : Token) (R : Production V) (Fit : Limits → List V → Type 0) (held : Limits)
    (text rest back others : List Token) (lead : Option Token) (values more said : List V) → front (text ++ rest) ≡ lead
    → (Fit held values → lead ≢ Some closing) → text ++ rest ≡ back ++ (closing ∷ others) → Repeated R held back more
    → said ≡ values ++ more → Fit held said
    → ((next tail : List Token) (value : V) (further : List V) → text ++ rest ≡ next ++ (tail ++ (closing ∷ others))
    → R held next value → Repeated R held tail further → Fit held (values ++ value ∷ further) → ⊥) → ⊥
behind_readings closing R Fit held text rest back others lead values [] said at still same read said_is fit none =
    still (subst (λ all. Fit held all) (said_is ∙ append-nil values) fit)
    (sym at ∙ ap front (same ∙ ap (λ (tokens : List Token). tokens ++ (closing ∷ others)) read))
behind_readings closing R Fit held text rest back others lead values (value ∷ more) said at still same read said_is fit
    none =
    none read.0 read.1 value more
    (same ∙ ap (λ (tokens : List Token). tokens ++ (closing ∷ others)) read.2
    ∙ append_assoc read.0 read.1 (closing ∷ others))
    read.3 read.4 (subst (λ all. Fit held all) said_is fit)

-- A fault within the brackets, at the first token of a reading or behind some of its tokens: what is begun has a
-- completion, and what goes on with readings from there meets the condition no more, or there is none.
pub bracketed_fault : {V : Type 0} (opening closing : Token) (R : Production V) (Fit : Limits → List V → Type 0)
    (starts : Further) (limits : Limits) (inner text : List Token) (token lead : Option Token) (over : Option Counted)
    (values : List V) → starts (Some closing) ≡ false → AreSoFar R starts limits inner lead values
    → lead ≡ front_or text token → ((held : Limits) → Fit held values → lead ≢ Some closing)
    → Begins (Bracketed opening closing R Fit) limits (opening ∷ (inner ++ text))
    → IsOver (Bracketed opening closing R Fit) limits (opening ∷ (inner ++ text)) token over
    → ((held : Limits) (rest next tail others : List Token) (value : V) (more : List V) → IsHeld limits token over held
    → front rest ≡ token → text ++ rest ≡ next ++ (tail ++ others) → R held next value → Repeated R held tail more
    → Fit held (values ++ value ∷ more) → ⊥)
    → IsFault (Bracketed opening closing R Fit) nothing_further limits (opening ∷ (inner ++ text)) token over
bracketed_fault opening closing R Fit starts limits inner text token lead over values ends so_far leads still begins
    over_is none = record {
      begins = begins;
      none = λ held rest tokens others said is_held at same read ended.
          let whole : inner ++ (text ++ rest) ≡ read.0 ++ (closing ∷ others) =
          sym (append_assoc inner text rest)
          ∙ inside opening closing ((inner ++ text) ++ rest) tokens others read.0 same read.1 in
          let lead_at = front_at text rest token lead at leads in
          let more = so_far.only held (text ++ rest) read.0 (closing ∷ others) said lead_at whole read.2 ends in
          behind_readings closing R Fit held text rest more.1 others lead values more.0 said lead_at (still held) more.4
          more.5 more.2
          read.3
          (λ next tail value further behind read_next read_tail fit.
          none held rest next tail (closing ∷ others) value further is_held at behind read_next read_tail fit);
      over_is = over_is;
    }
