-- Picks joined by commas: what is read of them, and their faults.
use Rattle.std.proofs.Common.{ℕ, ◌≡◌, ◌≢◌, ◌==◌, false, List, [], ◌∷◌, ◌++◌, Option, Some, None, Result}
use Rattle.std.proofs.Common.{Ok}
use Rattle.std.proofs.Common.{Err, ap, sym, ◌∙◌, refl, append_assoc, append-nil}
use Rattle.std.proofs.lemmas.Bool.{false≢true, eqb-true}
use Rattle.route_values.specs.declared.pick.Pick.{Pick}
use Rattle.token_reader.specs.declared.token.Place.{Place}
use Rattle.token_reader.specs.Tokens.{Token, Placed, Mark, Word, front_token}
use Rattle.route_grammar.specs.declared.fault.ReadFault.{ReadFault}
use Rattle.route_grammar.specs.Limits.{Limits, in_force, raised}
use Rattle.route_grammar.specs.Productions.{Production, OneToken, Then, Repeated, front, nothing_further}
use Rattle.route_grammar.specs.Answered.{Answers, Reads}
use Rattle.route_grammar.proofs.ProductionLemmas.{leads_all, HasReading, Grows, IsChosen}
use Rattle.route_grammar.proofs.AnsweredLemmas.{then_answers, then_reads, first_answers, chosen_answers}
use Rattle.command_grammar.specs.declared.keywords.Qualifier.{Qualifier}
use Rattle.command_grammar.specs.declared.keywords.Qualifier.TheVariants.{LocalIp, LocalAs, PeerAs, RouterId}
use Rattle.command_grammar.specs.Selectors.{bare, Qualifying, AreQualifiers, OnePick, FurtherPick, FurtherPicks, Picks}
use Rattle.command_grammar.specs.Selectors.{further_pick, further_picks}
use Rattle.command_grammar.proofs.FormLemmas.{token_grows}
use Rattle.command_grammar.proofs.SelectorLemmas.{pick_of_picks, refuted}

-- ---- picks are read alike under all limits

qualifying_any : (which : Qualifier) (pick value : Pick) (limits other : Limits) (tokens : List Token)
    → Qualifying which pick limits tokens value → Qualifying which pick other tokens value
qualifying_any LocalIp pick value limits other tokens is = is
qualifying_any LocalAs pick value limits other tokens is = is
qualifying_any PeerAs pick value limits other tokens is = is
qualifying_any RouterId pick value limits other tokens is = is

qualifiers_any : (written : List Qualifier) (pick value : Pick) (limits other : Limits) (tokens : List Token)
    → AreQualifiers written pick limits tokens value → AreQualifiers written pick other tokens value
qualifiers_any [] pick value limits other tokens is = is
qualifiers_any (first ∷ written) pick value limits other tokens (new, is) = (
  new,
  (
    is.0,
    is.1,
    is.2,
    is.3,
    is.4,
    (
      is.5.0,
      is.5.1,
      is.5.2,
      is.5.3,
      qualifying_any first pick is.5.0 limits other is.5.1 is.5.4,
      qualifiers_any written is.5.0 value limits other is.5.2 is.5.5,
    ),
  ),
)

pick_any : (value : Pick) (limits other : Limits) (tokens : List Token) → OnePick limits tokens value
    → OnePick other tokens value
pick_any value limits other tokens is = (
  is.0,
  is.1,
  is.2,
  is.3,
  is.4,
  (
    is.5.0,
    is.5.1,
    is.5.2,
    is.5.3,
    is.5.4,
    (is.5.5.0, qualifiers_any is.5.5.0 (bare is.5.0) value limits other is.5.2 is.5.5.1),
  ),
)

further_any : (value : Pick) (limits other : Limits) (tokens : List Token) → FurtherPick limits tokens value
    → FurtherPick other tokens value
further_any value limits other tokens is = (is.0, is.1, is.2, is.3, is.4, pick_any value limits other is.2 is.5)

repeated_any : (picks : List Pick) (limits other : Limits) (tokens : List Token)
    → Repeated FurtherPick limits tokens picks → Repeated FurtherPick other tokens picks
repeated_any [] limits other tokens is = is
repeated_any (first ∷ picks) limits other tokens is =
    (is.0, is.1, is.2, further_any first limits other is.0 is.3, repeated_any picks limits other is.1 is.4)

pub picks_any : (value : List Pick) (limits other : Limits) (tokens : List Token) → Picks limits tokens value
    → Picks other tokens value
picks_any value limits other tokens is = (
  is.0,
  is.1,
  is.2,
  is.3,
  pick_any is.0 limits other is.1 is.4,
  (is.5.0, is.5.1, repeated_any is.5.0 limits other is.2 is.5.2),
)

pick_grows : Grows OnePick
pick_grows limits which tokens value is = pick_any value limits (raised which limits) tokens is

further_grows : Grows FurtherPick
further_grows limits which tokens value is = further_any value limits (raised which limits) tokens is

pub picks_grow : Grows Picks
picks_grow limits which tokens value is = picks_any value limits (raised which limits) tokens is

-- ---- what follows picks

-- the comma that a further pick begins with
comma_first : (tokens text rest others : List Token) (value : Pick) (limits : Limits) → tokens ≡ text ++ rest
    → FurtherPick limits text value → front (tokens ++ others) ≡ Some (Mark 44)
comma_first tokens text rest others value limits is further =
    ap (λ (all : List Token). front (all ++ others))
    (is ∙ ap (λ (all : List Token). all ++ rest) (further.3 ∙ ap (λ (all : List Token). all ++ further.2) further.4))

further_leads : (picks : List Pick) (limits : Limits) (tokens others : List Token) (value : List Pick)
    → FurtherPicks picks limits tokens value → further_picks (front others) ≡ false
    → further_pick (front (tokens ++ others)) ≡ false
further_leads picks limits tokens others value ([], is, read) ends =
    ap (λ (all : List Token). further_pick (front (all ++ others))) read ∙ pick_of_picks (front others) ends
further_leads picks limits tokens others value (first ∷ more, is, read) ends =
    ap further_pick (comma_first tokens read.0 read.1 others first limits read.2 read.3)

none_further : (picks : List Pick) → HasReading (FurtherPicks picks)
none_further picks limits = ([], picks, ([], sym (append-nil picks), refl))

-- a further pick, and then others
Continues : List Pick → Production (List Pick)
Continues picks = Then FurtherPick (λ pick. FurtherPicks (picks ++ pick ∷ []))

comma_read : (picks : List Pick) (limits : Limits) (tokens others : List Token) (value : List Pick)
    → front (tokens ++ others) ≡ Some (Mark 44) → further_picks (front others) ≡ false
    → FurtherPicks picks limits tokens value → Continues picks limits tokens value
unfolding Continues
comma_read picks limits tokens others value at ends ([], is, read) =
    let empty : front others ≡ Some (Mark 44) =
    ap (λ (all : List Token). front (all ++ others)) (sym read) ∙ at in
    absurd (false≢true (sym ends ∙ ap further_picks empty))
comma_read picks limits tokens others value at ends (first ∷ more, is, read) =
    (first, read.0, read.1, read.2, read.3, (more, is ∙ sym (append_assoc picks (first ∷ []) more), read.4))

continues : (picks : List Pick)
    → IsChosen (Continues picks) (FurtherPicks picks) further_picks (Some (Mark 44))
unfolding Continues
continues picks = record {
  wider = λ limits tokens value (first, text, rest, is, read, (more, all, others)).
      (first ∷ more, all ∙ append_assoc picks (first ∷ []) more, (text, rest, is, read, others));
  same = λ limits tokens others value at ends is. comma_read picks limits tokens others value at ends is;
}

-- behind a comma and a pick
pub picks_more : (picks : List Pick) (first : Pick) (tokens mid rest left : List Placed) (end : Place)
    (answer : Result (List Pick) ReadFault) → front_token tokens ≡ Some (Mark 44)
    → Reads (OneToken (Mark 44)) nothing_further in_force tokens mid tt
    → Reads OnePick further_pick in_force mid rest first
    → Answers (FurtherPicks (picks ++ first ∷ [])) further_picks in_force rest left end answer
    → Answers (FurtherPicks picks) further_picks in_force tokens left end answer
unfolding Continues
picks_more picks first tokens mid rest left end answer at comma pick others =
    chosen_answers (Continues picks) (FurtherPicks picks) further_picks in_force tokens left end (Some (Mark 44)) answer
    (continues picks) at
    (then_answers FurtherPick (λ pick. FurtherPicks (picks ++ pick ∷ [])) further_pick further_picks in_force tokens
    rest
    left end first answer
    (λ limits said text behind value read ends. further_leads (picks ++ said ∷ []) limits text behind value read ends)
    further_grows
    (then_reads (OneToken (Mark 44)) (λ (said : Unit {0}). OnePick) nothing_further further_pick in_force tokens mid
    rest
    tt first (leads_all further_pick (λ (said : Unit {0}). OnePick)) comma pick) others)

-- the fault of a pick behind a comma
pub picks_err : (picks : List Pick) (tokens mid left : List Placed) (end : Place) (error : ReadFault)
    → front_token tokens ≡ Some (Mark 44) → Reads (OneToken (Mark 44)) nothing_further in_force tokens mid tt
    → Answers OnePick further_pick in_force mid left end (Err error)
    → Answers (FurtherPicks picks) further_picks in_force tokens left end (Err error)
unfolding Continues
picks_err picks tokens mid left end error at comma pick =
    chosen_answers (Continues picks) (FurtherPicks picks) further_picks in_force tokens left end (Some (Mark 44))
    (Err error) (continues picks) at
    (first_answers FurtherPick (λ pick. FurtherPicks (picks ++ pick ∷ [])) further_pick further_picks in_force tokens
    left end error
    (λ limits said text behind value read ends. further_leads (picks ++ said ∷ []) limits text behind value read ends)
    (λ said. none_further (picks ++ said ∷ []))
    (then_answers (OneToken (Mark 44)) (λ (said : Unit {0}). OnePick) nothing_further further_pick in_force tokens mid
    left end tt (Err error) (leads_all further_pick (λ (said : Unit {0}). OnePick)) (token_grows (Mark 44)) comma pick))

picks_stop : (token : Option Token) → further_pick token ≡ false → token ≢ Some (Mark 44) → further_picks token ≡ false
picks_stop None is never = refl
picks_stop (Some (Mark sign)) is never =
    refuted (sign == 44) (λ same. never (ap (λ (n : ℕ). Some (Mark n)) (eqb-true sign 44 same)))
picks_stop (Some (Word word)) is never = is
picks_stop (Some _) is never = refl

none_more : (picks value : List Pick) (limits : Limits) (tokens others : List Token)
    → front (tokens ++ others) ≢ Some (Mark 44) → FurtherPicks picks limits tokens value
    → (tokens ≡ []) × (value ≡ picks)
none_more picks value limits tokens others never ([], is, read) = (read, is ∙ append-nil picks)
none_more picks value limits tokens others never (first ∷ more, is, read) =
    absurd (never (comma_first tokens read.0 read.1 others first limits read.2 read.3))

-- no further pick follows
pub picks_done : (picks : List Pick) (tokens : List Placed) (end : Place) → further_pick (front_token tokens) ≡ false
    → front_token tokens ≢ Some (Mark 44) → Answers (FurtherPicks picks) further_picks in_force tokens tokens end (Ok
    picks)
picks_done picks tokens end stops never = (
  [],
  refl,
  record {
    found = ([], sym (append-nil picks), refl);
    ends = picks_stop (front_token tokens) stops never;
    only = λ held rest text others said at same is ends.
        none_more picks said held text others (λ comma. never (sym at ∙ ap front same ∙ comma)) is;
  },
)

-- ---- picks

pub picks_first_err : (tokens left : List Placed) (end : Place) (error : ReadFault)
    → Answers OnePick further_pick in_force tokens left end (Err error)
    → Answers Picks further_picks in_force tokens left end (Err error)
picks_first_err tokens left end error first =
    first_answers OnePick (λ pick. FurtherPicks (pick ∷ [])) further_pick further_picks in_force tokens left end error
    (λ limits said text behind value read ends. further_leads (said ∷ []) limits text behind value read ends)
    (λ said. none_further (said ∷ [])) first

pub picks_ok : (first : Pick) (tokens mid left : List Placed) (end : Place) (answer : Result (List Pick) ReadFault)
    → Reads OnePick further_pick in_force tokens mid first
    → Answers (FurtherPicks (first ∷ [])) further_picks in_force mid left end answer
    → Answers Picks further_picks in_force tokens left end answer
picks_ok first tokens mid left end answer read others =
    then_answers OnePick (λ pick. FurtherPicks (pick ∷ [])) further_pick further_picks in_force tokens mid left end
    first
    answer (λ limits said text behind value is ends. further_leads (said ∷ []) limits text behind value is ends)
    pick_grows read others
