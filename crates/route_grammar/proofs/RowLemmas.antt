-- Readings put end to end with no sign around them, up to a token that doesn't go on.
use Rattle.std.proofs.Common.{◌≡◌, ◌≤◌, true, false, List, [], ◌∷◌, ◌++◌, Option, Some, None, ap, sym, ◌∙◌, refl}
use Rattle.std.proofs.Common.{subst, append_assoc, append-nil, arith}
use Rattle.std.proofs.lemmas.Bool.{false≢true}
use Rattle.token_reader.specs.Tokens.{Token, Word}
use Rattle.route_grammar.specs.Limits.{Counted, Limits, raised}
use Rattle.route_grammar.specs.Productions.{Production, Further, nothing_further, front, Begins, IsOver, IsRead}
use Rattle.route_grammar.specs.Productions.{IsFault, Repeated, Row}
use Rattle.route_grammar.proofs.LimitLemmas.{raised_more}
use Rattle.route_grammar.proofs.ProductionLemmas.{front_or, front_at, Grows}
use Rattle.route_grammar.proofs.RepeatedLemmas.{Starts, AreSoFar, repeated_more, repeated_grows}
use Rattle.route_grammar.proofs.InsideLemmas.{IsNext}

-- what begins with a token that doesn't go on is no further reading
none_more : {V : Type 0} (R : Production V) (starts : Further) (held : Limits) (rest back others : List Token)
    (more : List V) → Starts R starts → starts (front rest) ≡ false → rest ≡ back ++ others → Repeated R held back more
    → (more ≡ []) × (back ≡ [])
none_more R starts held rest back others [] begin ends same read = (refl, read)
none_more R starts held rest back others (value ∷ more) begin ends same read =
    let whole : rest ≡ read.0 ++ (read.1 ++ others) =
    same ∙ ap (λ (tokens : List Token). tokens ++ others) read.2 ∙ append_assoc read.0 read.1 others in
    absurd (false≢true (sym ends ∙ ap (λ (tokens : List Token). starts (front tokens)) whole
    ∙ begin held read.0 (read.1 ++ others) value read.3))

pub row_read : {V W : Type 0} (R : Production V) (Fit : Limits → List V → Type 0) (say : List V → W) (starts : Further)
    (limits : Limits) (before : List Token) (token : Option Token) (values : List V) → Starts R starts
    → AreSoFar R starts limits before token values → Fit limits values → starts token ≡ false
    → IsRead (Row R Fit say) starts limits before token (say values)
row_read R Fit say starts limits before token values begin so_far fit ends = record {
  found = (values, so_far.found, fit, refl);
  ends = ends;
  only = λ held rest tokens others said at same read ended.
      let more = so_far.only held rest tokens others read.0 at same read.1 ended in
      let nothing = none_more R starts held rest more.1 others more.0 begin
      (ap (λ (lead : Option Token). starts lead) at ∙ ends) more.4 more.5 in (
        more.3 ∙ ap (λ (back : List Token). before ++ back) nothing.1 ∙ append-nil before,
        read.3 ∙ ap say (more.2 ∙ ap (λ (back : List _). values ++ back) nothing.0 ∙ append-nil values),
      );
}

-- what goes on behind values, where a further reading begins
row_behind : {V : Type 0} (R : Production V) (Fit : Limits → List V → Type 0) (starts : Further) (held : Limits)
    (text rest back others : List Token) (lead : Option Token) (values more said : List V) → front (text ++ rest) ≡ lead
    → starts lead ≡ true → starts (front others) ≡ false → text ++ rest ≡ back ++ others → Repeated R held back more
    → said ≡ values ++ more → Fit held said
    → ((next tail : List Token) (value : V) (further : List V) → text ++ rest ≡ next ++ (tail ++ others)
    → R held next value → Repeated R held tail further → Fit held (values ++ value ∷ further) → ⊥) → ⊥
row_behind R Fit starts held text rest back others lead values [] said at goes_on ends same read said_is fit none =
    let alone : text ++ rest ≡ others = same ∙ ap (λ (tokens : List Token). tokens ++ others) read in
    false≢true (sym ends ∙ ap (λ (tokens : List Token). starts (front tokens)) (sym alone)
    ∙ ap (λ (token : Option Token). starts token) at ∙ goes_on)
row_behind R Fit starts held text rest back others lead values (value ∷ more) said at goes_on ends same read said_is fit
    none =
    none read.0 read.1 value more
    (same ∙ ap (λ (tokens : List Token). tokens ++ others) read.2 ∙ append_assoc read.0 read.1 others)
    read.3 read.4 (subst (λ all. Fit held all) said_is fit)

-- a token that would begin one more reading, which the condition doesn't allow
pub row_stops : {V W : Type 0} (R : Production V) (Fit : Limits → List V → Type 0) (say : List V → W)
    (starts : Further) (limits : Limits) (before : List Token) (token : Option Token) (values : List V)
    → AreSoFar R starts limits before token values → Fit limits values → starts token ≡ true
    → ((held : Limits) (next others : List Token) (value : V) (more : List V) → front (next ++ others) ≡ token
    → R held next value → Fit held (values ++ value ∷ more) → ⊥)
    → IsFault (Row R Fit say) starts limits before token None
row_stops R Fit say starts limits before token values so_far fit goes_on none = record {
  begins = (
    [],
    say values,
    (
      values,
      subst (λ (tokens : List Token). Repeated R limits tokens values) (sym (append-nil before)) so_far.found,
      fit,
      refl,
    ),
  );
  none = λ held rest tokens others said is_held at same read ends.
      let more = so_far.only held rest tokens others read.0 at same read.1 ends in
      row_behind R Fit starts held [] rest more.1 others token values more.0 read.0 at goes_on ends more.4 more.5 more.2
      read.2
      (λ next tail value further behind read_next read_tail fits.
      none held next (tail ++ others) value further (ap front (sym behind) ∙ at) read_next fits);
  over_is = tt;
}

row_begins : {V W : Type 0} (S R : Production V) (Fit : Limits → List V → Type 0) (say : List V → W)
    (limits held : Limits) (before text : List Token) (lead : Option Token) (values : List V)
    → ((one : Counted) → limits one ≤ held one) → IsNext S R Fit limits values lead → Repeated R held before values
    → Begins S held text → Begins (Row R Fit say) held (before ++ text)
row_begins S R Fit say limits held before text lead values least next read begins =
    let wide = next.wider held (text ++ begins.0) begins.1 least begins.2 in (
      begins.0,
      say (values ++ begins.1 ∷ []),
      (
        values ++ begins.1 ∷ [],
        subst (λ (tokens : List Token). Repeated R held tokens (values ++ begins.1 ∷ []))
            (sym (append_assoc before text begins.0))
            (repeated_more R held before (text ++ begins.0) values begins.1 read wide.0),
        wide.1,
        refl,
      ),
    )

row_over : {V W : Type 0} (S R : Production V) (Fit : Limits → List V → Type 0) (say : List V → W) (limits : Limits)
    (before text : List Token) (token lead : Option Token) (over : Option Counted) (values : List V) → Grows R
    → IsNext S R Fit limits values lead → Repeated R limits before values → IsOver S limits text token over
    → IsOver (Row R Fit say) limits (before ++ text) token over
row_over S R Fit say limits before text token lead None values grows next read is = tt
row_over S R Fit say limits before text token lead (Some which) values grows next read is = (
  is.0,
  is.1,
  subst (λ (tokens : List Token). Begins (Row R Fit say) (raised which limits) tokens)
      (sym (append_assoc before text (Word is.0 ∷ [])))
      (row_begins S R Fit say limits (raised which limits) before (text ++ Word is.0 ∷ []) lead values
      (λ one. raised_more which one limits) next (repeated_grows R grows limits which before values read) is.2),
)

-- a fault of the next reading
pub row_fault : {V W : Type 0} (S R : Production V) (Fit : Limits → List V → Type 0) (say : List V → W)
    (starts : Further) (limits : Limits) (before text : List Token) (token lead : Option Token) (over : Option Counted)
    (values : List V) → Grows R → AreSoFar R starts limits before lead values → lead ≡ front_or text token
    → starts lead ≡ true → IsNext S R Fit limits values lead → IsFault S nothing_further limits text token over
    → IsFault (Row R Fit say) starts limits (before ++ text) token over
row_fault S R Fit say starts limits before text token lead over values grows so_far leads goes_on next fault = record {
  begins = row_begins S R Fit say limits limits before text lead values (λ one. omega arith) next so_far.found
      fault.begins;
  none = λ held rest tokens others said is_held at same read ends.
      let lead_at = front_at text rest token lead at leads in
      let more = so_far.only held (text ++ rest) tokens others read.0 lead_at
      (sym (append_assoc before text rest) ∙ same) read.1 ends in
      row_behind R Fit starts held text rest more.1 others lead values more.0 read.0 lead_at goes_on ends more.4 more.5
      more.2 read.2
      (λ part tail value further behind read_part read_tail fits.
      fault.none held rest part (tail ++ others) value is_held at behind
      (next.same held part (tail ++ others) value further (ap front (sym behind) ∙ lead_at) read_part fits) refl);
  over_is = row_over S R Fit say limits before text token lead over values grows next so_far.found fault.over_is;
}
