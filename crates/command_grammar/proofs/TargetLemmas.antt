-- What lines without routes want of their neighbours: readings and faults.
use Rattle.std.proofs.Common.{ℕ, ◌≡◌, false, codes, List, [], ◌∷◌, ◌++◌, Some, None, Result, Ok, Err}
use Rattle.std.proofs.Common.{ap, sym, ◌∙◌, refl, inl, inr}
use Rattle.std.proofs.lemmas.Bool.{false≢true}
use Rattle.route_values.specs.declared.pick.Pick.{Pick}
use Rattle.route_values.specs.Prefix.{Block}
use Rattle.text_forms.specs.Families.{IsBlockText}
use Rattle.token_reader.specs.declared.token.Place.{Place}
use Rattle.token_reader.specs.Tokens.{Token, Placed, Word, front_token}
use Rattle.route_grammar.specs.declared.fault.ReadFault.{ReadFault}
use Rattle.route_grammar.specs.Limits.{Limits, in_force}
use Rattle.route_grammar.specs.Productions.{Production, OneToken, OneWord, Then, front}
use Rattle.route_grammar.specs.Productions.{nothing_further}
use Rattle.route_grammar.specs.Productions.{all_further}
use Rattle.route_grammar.specs.Answered.{Answers, Reads}
use Rattle.route_grammar.proofs.ProductionLemmas.{leads_all, HasReading, IsChosen}
use Rattle.route_grammar.proofs.AnsweredLemmas.{then_answers, first_answers, chosen_answers}
use Rattle.command_grammar.specs.declared.command.Command.{Command}
use Rattle.command_grammar.specs.declared.command.Command.TheVariants as said
use Rattle.command_grammar.specs.declared.keywords.Verb.TheVariants.{Teardown}
use Rattle.command_grammar.specs.Forms.{Ended, IsCode}
use Rattle.command_grammar.specs.Targets.{OutWords, Out, Within, Wanted}
use Rattle.command_grammar.proofs.FormLemmas.{behind_ok, behind_err, ended_ok, ended_some, word_grows}

-- ---- the words `adj-rib out`

pub out_some : HasReading (OneToken (Word (codes "out")))
out_some limits = (Word (codes "out") ∷ [], tt, refl)

pub out_first_err : (tokens left : List Placed) (end : Place) (error : ReadFault)
    → Answers (OneToken (Word (codes "adj-rib"))) nothing_further in_force tokens left end (Err error)
    → Answers OutWords nothing_further in_force tokens left end (Err error)
out_first_err tokens left end error first =
    behind_err (codes "adj-rib") (OneToken (Word (codes "out"))) nothing_further tokens left end error out_some first

pub out_second : (tokens mid left : List Placed) (end : Place) (answer : Result (Unit {0}) ReadFault)
    → Reads (OneToken (Word (codes "adj-rib"))) nothing_further in_force tokens mid tt
    → Answers (OneToken (Word (codes "out"))) nothing_further in_force mid left end answer
    → Answers OutWords nothing_further in_force tokens left end answer
out_second tokens mid left end answer first second =
    behind_ok (codes "adj-rib") (OneToken (Word (codes "out"))) nothing_further tokens mid left end answer first second

pub out_err : (R : Production Command) (tokens left : List Placed) (end : Place) (error : ReadFault) → HasReading R
    → Answers OutWords nothing_further in_force tokens left end (Err error)
    → Answers (Out R) all_further in_force tokens left end (Err error)
out_err R tokens left end error some first =
    first_answers OutWords (λ (said : Unit {0}). R) nothing_further all_further in_force tokens left end error
    (leads_all all_further (λ (said : Unit {0}). R)) (λ said. some) first

pub out_ok : (R : Production Command) (tokens mid left : List Placed) (end : Place) (answer : Result Command ReadFault)
    → Reads OutWords nothing_further in_force tokens mid tt → Answers R all_further in_force mid left end answer
    → Answers (Out R) all_further in_force tokens left end answer
out_ok R tokens mid left end answer first second =
    then_answers OutWords (λ (said : Unit {0}). R) nothing_further all_further in_force tokens mid left end tt answer
    (leads_all all_further (λ (said : Unit {0}). R)) (λ limits which text value is. is) first second

-- ---- within a prefix

pub within_some : (pick : List Pick) → HasReading (Within pick)
within_some pick limits = ([], said.Show pick None, inl (refl, refl))

-- the first of a word's tokens
word_first : {V : Type 0} (Spells : List ℕ → V → Type 0) (limits : Limits) (tokens part rest others : List Token)
    (value : V) → tokens ≡ part ++ rest → OneWord Spells limits part value
    → (word : List ℕ) × (front (tokens ++ others) ≡ Some (Word word)) × Spells word value
word_first Spells limits tokens part rest others value is (word, alone, spelled) = (
  word,
  ap (λ (all : List Token). front (all ++ others)) (is ∙ ap (λ (all : List Token). all ++ rest) alone),
  spelled,
)

Bounded : List Pick → Production Command
Bounded pick = Then (OneWord IsBlockText) (λ block. Ended (said.Show pick (Some block)))

ended_only : (pick : List Pick) (limits : Limits) (tokens others : List Token) (value : Command)
    → front (tokens ++ others) ≡ None → Within pick limits tokens value
    → Ended (said.Show pick None) limits tokens value
ended_only pick limits tokens others value at (inl is) = is
ended_only pick limits tokens others value at (inr is) =
    let first = word_first IsBlockText limits tokens is.1 is.2 others is.0 is.3 is.4 in
    absurd (cc (first.1, at))

within_ended : (pick : List Pick) → IsChosen (Ended (said.Show pick None)) (Within pick) all_further None
within_ended pick = record {
  wider = λ limits tokens value is. inl is;
  same = λ limits tokens others value at ends is. ended_only pick limits tokens others value at is;
}

bounded_only : (pick : List Pick) (limits : Limits) (tokens others : List Token) (value : Command) (token : Token)
    → front (tokens ++ others) ≡ Some token → all_further (front others) ≡ false → Within pick limits tokens value
    → Bounded pick limits tokens value
unfolding Bounded
bounded_only pick limits tokens others value token at ends (inl is) =
    let empty : front others ≡ Some token = ap (λ (all : List Token). front (all ++ others)) (sym is.0) ∙ at in
    absurd (false≢true (sym ends ∙ ap all_further empty))
bounded_only pick limits tokens others value token at ends (inr is) = is

within_bounded : (pick : List Pick) (token : Token)
    → IsChosen (Bounded pick) (Within pick) all_further (Some token)
unfolding Bounded
within_bounded pick token = record {
  wider = λ limits tokens value is. inr is;
  same = λ limits tokens others value at ends is. bounded_only pick limits tokens others value token at ends is;
}

pub within_none : (pick : List Pick) (tokens : List Placed) (end : Place) → tokens ≡ []
    → Answers (Within pick) all_further in_force tokens tokens end (Ok (said.Show pick None))
within_none pick tokens end none =
    chosen_answers (Ended (said.Show pick None)) (Within pick) all_further in_force tokens tokens end None
    (Ok (said.Show pick None)) (within_ended pick) (ap front_token none) (ended_ok (said.Show pick None) tokens end
    none)

bounded : (pick : List Pick) (tokens left : List Placed) (end : Place) (answer : Result Command ReadFault)
    → (tokens ≡ [] → ⊥) → Answers (Bounded pick) all_further in_force tokens left end answer
    → Answers (Within pick) all_further in_force tokens left end answer
bounded pick [] left end answer some given = absurd (some refl)
bounded pick (one ∷ tokens) left end answer some given =
    chosen_answers (Bounded pick) (Within pick) all_further in_force (one ∷ tokens) left end (Some one.token) answer
    (within_bounded pick one.token) refl given

pub within_err : (pick : List Pick) (tokens left : List Placed) (end : Place) (error : ReadFault)
    → (tokens ≡ [] → ⊥) → Answers (OneWord IsBlockText) nothing_further in_force tokens left end (Err error)
    → Answers (Within pick) all_further in_force tokens left end (Err error)
unfolding Bounded
within_err pick tokens left end error some first =
    bounded pick tokens left end (Err error) some
    (first_answers (OneWord IsBlockText) (λ block. Ended (said.Show pick (Some block))) nothing_further all_further
    in_force tokens left end error (leads_all all_further (λ (block : Block). Ended (said.Show pick (Some block))))
    (λ block. ended_some (said.Show pick (Some block))) first)

pub within_ok : (pick : List Pick) (block : Block) (tokens mid left : List Placed) (end : Place)
    (answer : Result Command ReadFault) → (tokens ≡ [] → ⊥)
    → Reads (OneWord IsBlockText) nothing_further in_force tokens mid block
    → Answers (Ended (said.Show pick (Some block))) all_further in_force mid left end answer
    → Answers (Within pick) all_further in_force tokens left end answer
unfolding Bounded
within_ok pick block tokens mid left end answer some first second =
    bounded pick tokens left end answer some
    (then_answers (OneWord IsBlockText) (λ block. Ended (said.Show pick (Some block))) nothing_further all_further
    in_force tokens mid left end block answer
    (leads_all all_further (λ (block : Block). Ended (said.Show pick (Some block)))) (word_grows IsBlockText) first
    second)

-- ---- teardown

pub code_err : (pick : List Pick) (tokens left : List Placed) (end : Place) (error : ReadFault)
    → Answers (OneWord IsCode) nothing_further in_force tokens left end (Err error)
    → Answers (Wanted pick Teardown) all_further in_force tokens left end (Err error)
code_err pick tokens left end error first =
    first_answers (OneWord IsCode) (λ code. Ended (said.Teardown pick code)) nothing_further all_further in_force tokens
    left end error (leads_all all_further (λ (code : ℕ). Ended (said.Teardown pick code)))
    (λ code. ended_some (said.Teardown pick code)) first

pub code_ok : (pick : List Pick) (code : ℕ) (tokens mid left : List Placed) (end : Place)
    (answer : Result Command ReadFault) → Reads (OneWord IsCode) nothing_further in_force tokens mid code
    → Answers (Ended (said.Teardown pick code)) all_further in_force mid left end answer
    → Answers (Wanted pick Teardown) all_further in_force tokens left end answer
code_ok pick code tokens mid left end answer first second =
    then_answers (OneWord IsCode) (λ code. Ended (said.Teardown pick code)) nothing_further all_further in_force tokens
    mid left end code answer (leads_all all_further (λ (code : ℕ). Ended (said.Teardown pick code)))
    (word_grows IsCode) first second
