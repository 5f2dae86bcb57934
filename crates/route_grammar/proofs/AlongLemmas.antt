-- A reader along readings with no sign around them: the tokens from the first one on, those that are left, and the
-- values so far.
use Rattle.std.proofs.Common.{◌≡◌, ◌<◌, true, false, List, [], ◌∷◌, ◌++◌, Option, None, ap, arith, length, sym, ◌∙◌}
use Rattle.std.proofs.Common.{length-append, refl, subst}
use Rattle.std.proofs.lemmas.Bool.{false≢true}
use Rattle.token_reader.specs.Tokens.{Token, Placed, front_token}
use Rattle.route_grammar.specs.Limits.{Counted, Limits}
use Rattle.route_grammar.specs.Productions.{Production, Further, nothing_further, front, IsFault, Row}
use Rattle.route_grammar.specs.Answered.{tokens_of, Faults, Reads}
use Rattle.route_grammar.proofs.ProductionLemmas.{Grows}
use Rattle.route_grammar.proofs.AnsweredLemmas.{tokens_append, lead_of, both_before}
use Rattle.route_grammar.proofs.RepeatedLemmas.{Starts, AreSoFar, none_so_far, one_so_far}
use Rattle.route_grammar.proofs.InsideLemmas.{IsNext}
use Rattle.route_grammar.proofs.RowLemmas.{row_read, row_stops, row_fault}

-- a reading that begins with a token takes one away
pub reads_shorter : {V : Type 0} (R : Production V) (starts : Further) (limits : Limits) (tokens left : List Placed)
    (value : V) → Starts R starts → starts None ≡ false → Reads R nothing_further limits tokens left value
    → length left < length tokens
reads_shorter R starts limits tokens left value begin ends ([], is, read) =
    absurd (false≢true (sym ends ∙ begin limits [] [] value read.found))
reads_shorter R starts limits tokens left value begin ends (first ∷ before, is, read) =
    omega (arith, ap length is, length-append before left)

pub record IsAlong {V : Type 0} (R : Production V) (starts : Further) (limits : Limits) (tokens left : List Placed)
    (values : List V) : Type 0 where
  pub before : List Placed
  pub tokens_are : tokens ≡ before ++ left
  pub so_far : AreSoFar R starts limits (tokens_of before) (front_token left) values

pub along_none : {V : Type 0} (R : Production V) (starts : Further) (limits : Limits) (tokens : List Placed)
    → IsAlong R starts limits tokens tokens []
along_none R starts limits tokens = record {
  before = [];
  tokens_are = refl;
  so_far = none_so_far R starts limits (front_token tokens);
}

pub along_more : {V : Type 0} (R : Production V) (starts : Further) (limits : Limits)
    (tokens mid left : List Placed) (values : List V) (value : V) → Starts R starts
    → IsAlong R starts limits tokens mid values → Reads R nothing_further limits mid left value
    → IsAlong R starts limits tokens left (values ++ value ∷ [])
along_more R starts limits tokens mid left values value begin along read = record {
  before = along.before ++ read.0;
  tokens_are = both_before tokens mid left along.before read.0 along.tokens_are read.1;
  so_far = subst (λ (before : List Token). AreSoFar R starts limits before (front_token left) (values ++ value ∷ []))
      (sym (tokens_append along.before read.0))
      (one_so_far R starts limits (tokens_of along.before) (tokens_of read.0) (front_token left) (front_token mid)
      values
      value begin along.so_far (lead_of mid left read.0 read.1) read.2);
}

pub along_reads : {V W : Type 0} (R : Production V) (Fit : Limits → List V → Type 0) (say : List V → W)
    (starts : Further) (limits : Limits) (tokens left : List Placed) (values : List V) → Starts R starts
    → IsAlong R starts limits tokens left values → Fit limits values → starts (front_token left) ≡ false
    → Reads (Row R Fit say) starts limits tokens left (say values)
along_reads R Fit say starts limits tokens left values begin along fit ends = (
  along.before,
  along.tokens_are,
  row_read R Fit say starts limits (tokens_of along.before) (front_token left) values begin along.so_far fit ends,
)

pub along_stops : {V W : Type 0} (R : Production V) (Fit : Limits → List V → Type 0) (say : List V → W)
    (starts : Further) (limits : Limits) (tokens left : List Placed) (values : List V)
    → IsAlong R starts limits tokens left values → Fit limits values → starts (front_token left) ≡ true
    → ((held : Limits) (next others : List Token) (value : V) (more : List V)
    → front (next ++ others) ≡ front_token left → R held next value → Fit held (values ++ value ∷ more) → ⊥)
    → Faults (Row R Fit say) starts limits tokens left None
along_stops R Fit say starts limits tokens left values along fit goes_on none = (
  along.before,
  along.tokens_are,
  row_stops R Fit say starts limits (tokens_of along.before) (front_token left) values along.so_far fit goes_on none,
)

pub along_faults : {V W : Type 0} (S R : Production V) (Fit : Limits → List V → Type 0) (say : List V → W)
    (starts : Further) (limits : Limits) (tokens mid left : List Placed) (over : Option Counted) (values : List V)
    → Grows R → IsAlong R starts limits tokens mid values → starts (front_token mid) ≡ true
    → IsNext S R Fit limits values (front_token mid) → Faults S nothing_further limits mid left over
    → Faults (Row R Fit say) starts limits tokens left over
along_faults S R Fit say starts limits tokens mid left over values grows along goes_on next faults = (
  along.before ++ faults.0,
  both_before tokens mid left along.before faults.0 along.tokens_are faults.1,
  subst (λ (before : List Token). IsFault (Row R Fit say) starts limits before (front_token left) over)
      (sym (tokens_append along.before faults.0))
      (row_fault S R Fit say starts limits (tokens_of along.before) (tokens_of faults.0) (front_token left)
      (front_token mid) over values grows along.so_far (lead_of mid left faults.0 faults.1) goes_on next faults.2),
)
