-- Picks: what is read of them, and their faults.
use Rattle.std.proofs.Common.{ℕ, ◌≡◌, ◌≢◌, Bool, true, false, codes, List, [], ◌∷◌, ◌++◌, Option, Some, None}
use Rattle.std.proofs.Common.{Result, Ok, Err, if◌then◌else◌, ap, sym, ◌∙◌, refl, subst}
use Rattle.std.proofs.lemmas.Bool.{false≢true}
use Rattle.std.proofs.lemmas.Slice.Eq.{bytes_eq-Decides}
use Rattle.std.specs.Str.{bytes_eq}
use Rattle.route_values.specs.declared.addr.Addr.{Addr}
use Rattle.route_values.specs.declared.pick.Pick.{Pick}
use Rattle.text_forms.specs.Families.{IsAddrText}
use Rattle.token_reader.specs.declared.token.Place.{Place}
use Rattle.token_reader.specs.Tokens.{Token, Placed, Mark, Word, front_token}
use Rattle.route_grammar.specs.declared.fault.LineFault.TheVariants.{BadToken}
use Rattle.route_grammar.specs.declared.fault.ReadFault.{ReadFault}
use Rattle.route_grammar.specs.declared.fault.ReadFault.TheVariants.{Line}
use Rattle.route_grammar.specs.Limits.{Limits, in_force}
use Rattle.route_grammar.specs.Productions.{Production, OneToken, OneWord, Then, front}
use Rattle.route_grammar.specs.Productions.{nothing_further}
use Rattle.route_grammar.specs.Answered.{Answers, Reads, column}
use Rattle.route_grammar.proofs.ProductionLemmas.{leads_all, HasReading, Grows, IsChosen, none_fault}
use Rattle.route_grammar.proofs.AnsweredLemmas.{then_answers, first_answers, chosen_answers}
use Rattle.command_grammar.specs.declared.keywords.Qualifier.{Qualifier}
use Rattle.command_grammar.specs.declared.keywords.Qualifier.TheVariants.{LocalIp, LocalAs, PeerAs, RouterId}
use Rattle.command_grammar.specs.Forms.{Where, Behind}
use Rattle.command_grammar.specs.Keywords.{qualifier_word}
use Rattle.command_grammar.specs.Selectors.{bare, IsUnwritten, Qualifying, Qualified, OnePick}
use Rattle.command_grammar.specs.Selectors.{is_qualifier, further_pick, further_picks}
use Rattle.command_grammar.proofs.TokenLemmas.{blamed}
use Rattle.command_grammar.proofs.FormLemmas.{behind_ok, behind_err, behind_some, where_answers}
use Rattle.command_grammar.proofs.SampleLemmas.{addr_sample}

-- ---- the words of qualifiers

decode : List ℕ → Qualifier
decode word =
    if bytes_eq word (codes "local-ip") then LocalIp else
    (if bytes_eq word (codes "local-as") then LocalAs else
    (if bytes_eq word (codes "peer-as") then PeerAs else RouterId))

decoded : (which : Qualifier) → decode (qualifier_word which) ≡ which
unfolding decode
decoded LocalIp = refl
decoded LocalAs = refl
decoded PeerAs = refl
decoded RouterId = refl

-- no two have one word
word_once : (one other : Qualifier) → qualifier_word one ≡ qualifier_word other → one ≡ other
word_once one other same = sym (decoded one) ∙ ap decode same ∙ decoded other

is_further : (which : Qualifier) → is_qualifier (qualifier_word which) ≡ true
is_further LocalIp = refl
is_further LocalAs = refl
is_further PeerAs = refl
is_further RouterId = refl

pub refuted : (test : Bool) → (test ≡ true → ⊥) → test ≡ false
refuted false never = refl
refuted true never = absurd (never refl)

unlike : (word text : List ℕ) → word ≢ text → bytes_eq word text ≡ false
unlike word text never = refuted (bytes_eq word text) (λ same. never ((bytes_eq-Decides word text).0 same))

pub no_qualifier : (word : List ℕ) → ((which : Qualifier) → word ≢ qualifier_word which) → is_qualifier word ≡ false
no_qualifier word none =
    let first = unlike word (codes "local-ip") (none LocalIp) in
    let second = unlike word (codes "local-as") (none LocalAs) in
    let third = unlike word (codes "peer-as") (none PeerAs) in
    let fourth = unlike word (codes "router-id") (none RouterId) in
    rw (first, second, third, fourth) refl

-- what goes on with a pick goes on with picks
pub pick_of_picks : (token : Option Token) → further_picks token ≡ false → further_pick token ≡ false
pick_of_picks None is = refl
pick_of_picks (Some (Mark sign)) is = refl
pick_of_picks (Some (Word word)) is = is
pick_of_picks (Some _) is = refl

-- ---- qualifiers

word_token : (first word : List ℕ) → Some (Word first) ≡ Some (Word word) → first ≡ word
word_token first word same = cc

-- the first of some tokens that are cut behind one
pub lead_token : (token : Token) (tokens part rest others : List Token) → tokens ≡ part ++ rest → part ≡ token ∷ []
    → front (tokens ++ others) ≡ Some token
lead_token token tokens part rest others is alone =
    ap (λ (all : List Token). front (all ++ others)) (is ∙ ap (λ (all : List Token). all ++ rest) alone)

-- one qualifier that isn't written yet, and then any others
Qualifies : Qualifier → Pick → Production Pick
Qualifies which pick =
    Where (λ limits. IsUnwritten which pick) (Behind (qualifier_word which) (Then (Qualifying which pick) Qualified))

-- what reads as qualifiers, by their first word
first_word : (which : Qualifier) (pick : Pick) (limits : Limits) (tokens others : List Token) (value : Pick)
    → front (tokens ++ others) ≡ Some (Word (qualifier_word which)) → further_pick (front others) ≡ false
    → Qualified pick limits tokens value → Qualifies which pick limits tokens value
unfolding Qualifies
first_word which pick limits tokens others value at ends ([], are) =
    let empty : front others ≡ Some (Word (qualifier_word which)) =
    ap (λ (all : List Token). front (all ++ others)) (sym are.0) ∙ at in
    absurd (false≢true (sym ends ∙ ap further_pick empty ∙ is_further which))
first_word which pick limits tokens others value at ends (first ∷ more, (new, behind)) =
    let same = word_once first which
    (word_token (qualifier_word first) (qualifier_word which)
    (sym (lead_token (Word (qualifier_word first)) tokens behind.1 behind.2 others behind.3 behind.4) ∙ at)) in
    let all : Qualifies first pick limits tokens value = (
      new,
      (
        behind.0,
        behind.1,
        behind.2,
        behind.3,
        behind.4,
        (behind.5.0, behind.5.1, behind.5.2, behind.5.3, behind.5.4, (more, behind.5.5)),
      ),
    ) in
    subst (λ (one : Qualifier). Qualifies one pick limits tokens value) same all

qualifies : (which : Qualifier) (pick : Pick)
    → IsChosen (Qualifies which pick) (Qualified pick) further_pick (Some (Word (qualifier_word which)))
unfolding Qualifies
qualifies which pick = record {
  wider = λ limits tokens value (new, behind). (
    which ∷ behind.5.5.0,
    (
      new,
      (
        behind.0,
        behind.1,
        behind.2,
        behind.3,
        behind.4,
        (behind.5.0, behind.5.1, behind.5.2, behind.5.3, behind.5.4, behind.5.5.1),
      ),
    ),
  );
  same = λ limits tokens others value at ends is. first_word which pick limits tokens others value at ends is;
}

qualifying_grows : (which : Qualifier) (pick : Pick) → Grows (Qualifying which pick)
qualifying_grows LocalIp pick limits raised_one tokens value is = is
qualifying_grows LocalAs pick limits raised_one tokens value is = is
qualifying_grows PeerAs pick limits raised_one tokens value is = is
qualifying_grows RouterId pick limits raised_one tokens value is = is

qualified_some : (pick : Pick) → HasReading (Qualified pick)
qualified_some pick limits = ([], pick, ([], (refl, refl)))

-- behind a qualifier and its value
pub qualified_more : (which : Qualifier) (pick next : Pick) (tokens mid rest left : List Placed) (end : Place)
    (answer : Result Pick ReadFault) → front_token tokens ≡ Some (Word (qualifier_word which)) → IsUnwritten which pick
    → Reads (OneToken (Word (qualifier_word which))) nothing_further in_force tokens mid tt
    → Reads (Qualifying which pick) nothing_further in_force mid rest next
    → Answers (Qualified next) further_pick in_force rest left end answer
    → Answers (Qualified pick) further_pick in_force tokens left end answer
unfolding Qualifies
qualified_more which pick next tokens mid rest left end answer at new first second third =
    chosen_answers (Qualifies which pick) (Qualified pick) further_pick in_force tokens left end
    (Some (Word (qualifier_word which))) answer (qualifies which pick) at
    (where_answers (λ limits. IsUnwritten which pick)
    (Behind (qualifier_word which) (Then (Qualifying which pick) Qualified)) further_pick tokens left end answer
    (record { now = new; more = λ raised_one. new })
    (behind_ok (qualifier_word which) (Then (Qualifying which pick) Qualified) further_pick tokens mid left end answer
    first
    (then_answers (Qualifying which pick) Qualified nothing_further further_pick in_force mid rest left end next answer
    (leads_all further_pick Qualified) (qualifying_grows which pick) second third)))

-- the fault of a qualifier's value
pub qualified_err : (which : Qualifier) (pick : Pick) (tokens mid left : List Placed) (end : Place) (error : ReadFault)
    → front_token tokens ≡ Some (Word (qualifier_word which)) → IsUnwritten which pick
    → Reads (OneToken (Word (qualifier_word which))) nothing_further in_force tokens mid tt
    → Answers (Qualifying which pick) nothing_further in_force mid left end (Err error)
    → Answers (Qualified pick) further_pick in_force tokens left end (Err error)
unfolding Qualifies
qualified_err which pick tokens mid left end error at new first second =
    chosen_answers (Qualifies which pick) (Qualified pick) further_pick in_force tokens left end
    (Some (Word (qualifier_word which))) (Err error) (qualifies which pick) at
    (where_answers (λ limits. IsUnwritten which pick)
    (Behind (qualifier_word which) (Then (Qualifying which pick) Qualified)) further_pick tokens left end (Err error)
    (record { now = new; more = λ raised_one. new })
    (behind_ok (qualifier_word which) (Then (Qualifying which pick) Qualified) further_pick tokens mid left end
    (Err error) first
    (first_answers (Qualifying which pick) Qualified nothing_further further_pick in_force mid left end error
    (leads_all further_pick Qualified) qualified_some second)))

-- a qualifier that is written already
pub qualified_twice : (which : Qualifier) (pick : Pick) (tokens : List Placed) (end : Place) (error : ReadFault)
    → error ≡ Line (BadToken (column tokens end)) → front_token tokens ≡ Some (Word (qualifier_word which))
    → (IsUnwritten which pick → ⊥) → Answers (Qualified pick) further_pick in_force tokens tokens end (Err error)
unfolding Qualifies
qualified_twice which pick tokens end error blames at old =
    blamed (Qualified pick) further_pick tokens tokens end error blames (
      [],
      refl,
      none_fault (Qualified pick) further_pick in_force (front_token tokens) (qualified_some pick)
          (λ held text others value front_is is ends.
          old (first_word which pick held text others value (front_is ∙ at) ends is).0),
    )

-- no qualifier follows
none_written : (pick value : Pick) (limits : Limits) (tokens others : List Token)
    → further_pick (front (tokens ++ others)) ≡ false → Qualified pick limits tokens value
    → (tokens ≡ []) × (value ≡ pick)
none_written pick value limits tokens others stops ([], are) = are
none_written pick value limits tokens others stops (first ∷ more, (new, behind)) =
    absurd (false≢true (sym stops
    ∙ ap further_pick (lead_token (Word (qualifier_word first)) tokens behind.1 behind.2 others behind.3 behind.4)
    ∙ is_further first))

pub qualified_done : (pick : Pick) (tokens : List Placed) (end : Place) → further_pick (front_token tokens) ≡ false
    → Answers (Qualified pick) further_pick in_force tokens tokens end (Ok pick)
qualified_done pick tokens end stops = (
  [],
  refl,
  record {
    found = ([], (refl, refl));
    ends = stops;
    only = λ held rest text others said at same is ends.
        none_written pick said held text others (ap further_pick (ap front (sym same) ∙ at) ∙ stops) is;
  },
)

-- ---- one pick

addressed_some : HasReading (Then (OneWord IsAddrText) (λ addr. Qualified (bare addr)))
addressed_some limits = (
  Word addr_sample.word ∷ [],
  bare addr_sample.value,
  (
    addr_sample.value,
    Word addr_sample.word ∷ [],
    [],
    refl,
    (addr_sample.word, refl, addr_sample.spelled),
    ([], (refl, refl)),
  ),
)

pub pick_some : HasReading OnePick
pick_some = behind_some (codes "neighbor") (Then (OneWord IsAddrText) (λ addr. Qualified (bare addr))) addressed_some

pub pick_err : (tokens left : List Placed) (end : Place) (error : ReadFault)
    → Answers (OneToken (Word (codes "neighbor"))) nothing_further in_force tokens left end (Err error)
    → Answers OnePick further_pick in_force tokens left end (Err error)
pick_err tokens left end error first =
    behind_err (codes "neighbor") (Then (OneWord IsAddrText) (λ addr. Qualified (bare addr))) further_pick tokens left
    end
    error addressed_some first

pub pick_addr_err : (tokens mid left : List Placed) (end : Place) (error : ReadFault)
    → Reads (OneToken (Word (codes "neighbor"))) nothing_further in_force tokens mid tt
    → Answers (OneWord IsAddrText) nothing_further in_force mid left end (Err error)
    → Answers OnePick further_pick in_force tokens left end (Err error)
pick_addr_err tokens mid left end error first second =
    behind_ok (codes "neighbor") (Then (OneWord IsAddrText) (λ addr. Qualified (bare addr))) further_pick tokens mid
    left
    end (Err error) first
    (first_answers (OneWord IsAddrText) (λ addr. Qualified (bare addr)) nothing_further further_pick in_force mid left
    end error (leads_all further_pick (λ addr. Qualified (bare addr))) (λ addr. qualified_some (bare addr)) second)

pub pick_ok : (tokens mid rest left : List Placed) (end : Place) (addr : Addr) (answer : Result Pick ReadFault)
    → Reads (OneToken (Word (codes "neighbor"))) nothing_further in_force tokens mid tt
    → Reads (OneWord IsAddrText) nothing_further in_force mid rest addr
    → Answers (Qualified (bare addr)) further_pick in_force rest left end answer
    → Answers OnePick further_pick in_force tokens left end answer
pick_ok tokens mid rest left end addr answer first second third =
    behind_ok (codes "neighbor") (Then (OneWord IsAddrText) (λ addr. Qualified (bare addr))) further_pick tokens mid
    left
    end answer first
    (then_answers (OneWord IsAddrText) (λ addr. Qualified (bare addr)) nothing_further further_pick in_force mid rest
    left end addr answer (leads_all further_pick (λ addr. Qualified (bare addr)))
    (λ limits which text value is. is) second third)

-- ---- a qualifier by its kind

pub kind_answers : (which other : Qualifier) (pick : Pick) (tokens left : List Placed) (end : Place)
    (answer : Result Pick ReadFault) → which ≡ other
    → Answers (Qualifying other pick) nothing_further in_force tokens left end answer
    → Answers (Qualifying which pick) nothing_further in_force tokens left end answer
kind_answers which other pick tokens left end answer is given =
    let goal : Qualifier → Type 0 =
    λ kind. Answers (Qualifying kind pick) nothing_further in_force tokens left end answer in
    subst goal (sym is) given
