-- Verbs: what is read behind each, and which lines begin with one.
use Rattle.std.proofs.Common.{ℕ, ◌≡◌, false, codes, List, ◌++◌, Some, None, Result, Err, ap, sym, ◌∙◌, refl}
use Rattle.std.proofs.Common.{subst}
use Rattle.route_values.specs.declared.pick.Pick.{Pick}
use Rattle.text_forms.specs.Families.{IsBlockText}
use Rattle.token_reader.specs.declared.token.Place.{Place}
use Rattle.token_reader.specs.Tokens.{Token, Placed, Word}
use Rattle.route_grammar.specs.declared.fault.ReadFault.{ReadFault}
use Rattle.route_grammar.specs.Limits.{Limits, in_force}
use Rattle.route_grammar.specs.Productions.{Production, OneToken, OneWord, Then, front}
use Rattle.route_grammar.specs.Productions.{nothing_further, all_further}
use Rattle.route_grammar.specs.Answered.{Answers, Reads}
use Rattle.route_grammar.proofs.ProductionLemmas.{Leads, leads_all, HasReading}
use Rattle.route_grammar.proofs.AnsweredLemmas.{then_answers, first_answers}
use Rattle.command_grammar.specs.declared.command.Command.{Command}
use Rattle.command_grammar.specs.declared.command.Command.TheVariants as said
use Rattle.command_grammar.specs.declared.keywords.Form.{Form}
use Rattle.command_grammar.specs.declared.keywords.Form.TheVariants.{Route, Attributes}
use Rattle.command_grammar.specs.declared.keywords.Verb.{Verb}
use Rattle.command_grammar.specs.declared.keywords.Verb.TheVariants.{Announce, Withdraw, Flush, Clear, Show, Teardown}
use Rattle.command_grammar.specs.Forms.{Ended, IsCode}
use Rattle.command_grammar.specs.Keywords.{IsVerb, IsForm, verb_word}
use Rattle.command_grammar.specs.Routes.{Announced, Withdrawn}
use Rattle.command_grammar.specs.Selectors.{Picks, further_picks}
use Rattle.command_grammar.specs.Targets.{OutWords, Within, Wanted, Targeted}
use Rattle.command_grammar.proofs.FormLemmas.{behind_some, ended_some, then_with, word_grows}
use Rattle.command_grammar.proofs.PicksLemmas.{picks_grow}
use Rattle.command_grammar.proofs.RouteLemmas.{hopped_some, items_some, listed_has, SaysKeys, announces, withdraws}
use Rattle.command_grammar.proofs.RouteLemmas.{AnnouncedBehind, WithdrawnBehind, announced_behind, withdrawn_behind}
use Rattle.command_grammar.proofs.SampleLemmas.{sample_some, block_sample, code_sample, verb_sample, form_sample}
use Rattle.command_grammar.proofs.SelectorLemmas.{lead_token}
use Rattle.command_grammar.proofs.TargetLemmas.{out_some, within_some}

-- ---- something can be read behind each verb

then_some : {V W : Type 0} (R : Production V) (S : V → Production W) → HasReading R
    → ((first : V) → HasReading (S first)) → HasReading (Then R S)
then_some R S some more limits =
    let first = some limits in then_with R S limits first.0 first.1 first.2 (more first.1 limits)

pub announced_some : (pick : List Pick) (form : Form) → HasReading (Announced pick form)
announced_some pick Route =
    then_some (OneWord IsBlockText)
    (AnnouncedBehind pick)
    (sample_some IsBlockText block_sample)
    (announced_behind pick)
announced_some pick Attributes =
    hopped_some None (SaysKeys (announces pick)) (listed_has (announces pick))

pub withdrawn_some : (pick : List Pick) (form : Form) → HasReading (Withdrawn pick form)
withdrawn_some pick Route =
    then_some (OneWord IsBlockText)
    (WithdrawnBehind pick)
    (sample_some IsBlockText block_sample)
    (withdrawn_behind pick)
withdrawn_some pick Attributes =
    items_some None (SaysKeys (withdraws pick)) (listed_has (withdraws pick))

out_words_some : HasReading OutWords
out_words_some = behind_some (codes "adj-rib") (OneToken (Word (codes "out"))) out_some

pub wanted_some : (pick : List Pick) (verb : Verb) → HasReading (Wanted pick verb)
wanted_some pick Announce =
    then_some (OneWord IsForm) (Announced pick) (sample_some IsForm form_sample) (announced_some pick)
wanted_some pick Withdraw =
    then_some (OneWord IsForm) (Withdrawn pick) (sample_some IsForm form_sample) (withdrawn_some pick)
wanted_some pick Flush =
    then_some OutWords (λ (out : Unit {0}). Ended (said.Flush pick)) out_words_some
    (λ out. ended_some (said.Flush pick))
wanted_some pick Clear =
    then_some OutWords (λ (out : Unit {0}). Ended (said.Clear pick)) out_words_some
    (λ out. ended_some (said.Clear pick))
wanted_some pick Show = then_some OutWords (λ (out : Unit {0}). Within pick) out_words_some (λ out. within_some pick)
wanted_some pick Teardown =
    then_some (OneWord IsCode) (λ code. Ended (said.Teardown pick code)) (sample_some IsCode code_sample)
    (λ code. ended_some (said.Teardown pick code))

pub targeted_some : (pick : List Pick) → HasReading (Targeted pick)
targeted_some pick = then_some (OneWord IsVerb) (Wanted pick) (sample_some IsVerb verb_sample) (wanted_some pick)

-- ---- a verb and what is behind it

pub verb_err : (pick : List Pick) (tokens left : List Placed) (end : Place) (error : ReadFault)
    → Answers (OneWord IsVerb) nothing_further in_force tokens left end (Err error)
    → Answers (Targeted pick) all_further in_force tokens left end (Err error)
verb_err pick tokens left end error given =
    first_answers (OneWord IsVerb) (Wanted pick) nothing_further all_further in_force tokens left end error
    (leads_all all_further (Wanted pick)) (wanted_some pick) given

pub verb_ok : (pick : List Pick) (verb : Verb) (tokens mid left : List Placed) (end : Place)
    (answer : Result Command ReadFault) → Reads (OneWord IsVerb) nothing_further in_force tokens mid verb
    → Answers (Wanted pick verb) all_further in_force mid left end answer
    → Answers (Targeted pick) all_further in_force tokens left end answer
verb_ok pick verb tokens mid left end answer read given =
    then_answers (OneWord IsVerb) (Wanted pick) nothing_further all_further in_force tokens mid left end verb answer
    (leads_all all_further (Wanted pick)) (word_grows IsVerb) read given

pub form_err : (S : Form → Production Command) (tokens left : List Placed) (end : Place) (error : ReadFault)
    → ((form : Form) → HasReading (S form))
    → Answers (OneWord IsForm) nothing_further in_force tokens left end (Err error)
    → Answers (Then (OneWord IsForm) S) all_further in_force tokens left end (Err error)
form_err S tokens left end error some given =
    first_answers (OneWord IsForm) S nothing_further all_further in_force tokens left end error
    (leads_all all_further S) some given

pub form_ok : (S : Form → Production Command) (form : Form) (tokens mid left : List Placed) (end : Place)
    (answer : Result Command ReadFault) → Reads (OneWord IsForm) nothing_further in_force tokens mid form
    → Answers (S form) all_further in_force mid left end answer
    → Answers (Then (OneWord IsForm) S) all_further in_force tokens left end answer
form_ok S form tokens mid left end answer read given =
    then_answers (OneWord IsForm) S nothing_further all_further in_force tokens mid left end form answer
    (leads_all all_further S) (word_grows IsForm) read given

-- the same production, by the verb or the form that is known
pub by_verb : (pick : List Pick) (verb known : Verb) (tokens left : List Placed) (end : Place)
    (answer : Result Command ReadFault) → verb ≡ known
    → Answers (Wanted pick known) all_further in_force tokens left end answer
    → Answers (Wanted pick verb) all_further in_force tokens left end answer
by_verb pick verb known tokens left end answer is given =
    let goal : Verb → Type 0 = λ one. Answers (Wanted pick one) all_further in_force tokens left end answer in
    subst goal (sym is) given

pub by_form : (S : Form → Production Command) (form known : Form) (tokens left : List Placed) (end : Place)
    (answer : Result Command ReadFault) → form ≡ known
    → Answers (S known) all_further in_force tokens left end answer
    → Answers (S form) all_further in_force tokens left end answer
by_form S form known tokens left end answer is given =
    let goal : Form → Type 0 = λ one. Answers (S one) all_further in_force tokens left end answer in
    subst goal (sym is) given

-- ---- behind picks

no_pick : (verb : Verb) → further_picks (Some (Word (verb_word verb))) ≡ false
no_pick Announce = refl
no_pick Withdraw = refl
no_pick Flush = refl
no_pick Clear = refl
no_pick Show = refl
no_pick Teardown = refl

-- the word that what is wanted begins with
pub verb_first : (pick : List Pick) (limits : Limits) (tokens others : List Token) (value : Command)
    → Targeted pick limits tokens value
    → (verb : Verb) × (front (tokens ++ others) ≡ Some (Word (verb_word verb)))
verb_first pick limits tokens others value read = (
  read.0,
  lead_token (Word read.4.0) tokens read.1 read.2 others read.3 read.4.1
      ∙ ap (λ (word : List ℕ). Some (Word word)) read.4.2,
)

targeted_leads : Leads further_picks all_further Targeted
targeted_leads limits pick tokens others value read ends =
    let first = verb_first pick limits tokens others value read in ap further_picks first.1 ∙ no_pick first.0

pub picked_err : (tokens left : List Placed) (end : Place) (error : ReadFault)
    → Answers Picks further_picks in_force tokens left end (Err error)
    → Answers (Then Picks Targeted) all_further in_force tokens left end (Err error)
picked_err tokens left end error given =
    first_answers Picks Targeted further_picks all_further in_force tokens left end error targeted_leads targeted_some
    given

pub picked_ok : (pick : List Pick) (tokens mid left : List Placed) (end : Place) (answer : Result Command ReadFault)
    → Reads Picks further_picks in_force tokens mid pick
    → Answers (Targeted pick) all_further in_force mid left end answer
    → Answers (Then Picks Targeted) all_further in_force tokens left end answer
picked_ok pick tokens mid left end answer read given =
    then_answers Picks Targeted further_picks all_further in_force tokens mid left end pick answer targeted_leads
    picks_grow read given
