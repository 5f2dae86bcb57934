-- Signs that are passed, and a word between two of them.
use Rattle.std.proofs.Common.{ℕ, ◌≡◌, ◌≢◌, List, [], ◌∷◌, ◌++◌, Option, Some, None, Result, Ok, Err, ap, sym, ◌∙◌}
use Rattle.std.proofs.Common.{refl, subst, inl, inr}
use Rattle.token_reader.specs.declared.token.Place.{Place}
use Rattle.token_reader.specs.Tokens.{Token, Mark, Word, Placed, front_token, behind_front}
use Rattle.route_grammar.specs.declared.fault.LineFault.TheVariants.{BadToken}
use Rattle.route_grammar.specs.declared.fault.ReadFault.{ReadFault}
use Rattle.route_grammar.specs.declared.fault.ReadFault.TheVariants.{Line}
use Rattle.route_grammar.specs.Limits.{Limits, in_force}
use Rattle.route_grammar.specs.Productions.{Production, OneToken, OneWord, Then, Saying, IsRead}
use Rattle.route_grammar.specs.Productions.{front, nothing_further}
use Rattle.route_grammar.specs.Answered.{Answers, Faults, Reads, column}
use Rattle.route_grammar.specs.Lists.{AloneOrIn, opening_paren, closing_paren}
use Rattle.route_grammar.proofs.ProductionLemmas.{Grows, HasReading, IsChosen, leads_all}
use Rattle.route_grammar.proofs.ProductionLemmas.{one_token_read, one_token_fault}
use Rattle.route_grammar.proofs.AnsweredLemmas.{then_answers, first_answers, chosen_answers, saying_answers}
use Rattle.route_grammar.proofs.AnsweredLemmas.{saying_reads}
use Rattle.route_grammar.proofs.GrowLemmas.{word_grows}
use Rattle.route_grammar.proofs.WordLemmas.{bad_answers}

pub token_grows : (sign : Token) → Grows (OneToken sign)
token_grows sign limits which tokens value is = is

token_is : (first sign : Token) → Some first ≡ Some sign → sign ≡ first
token_is first sign same = cc

pub token_reads : (sign : Token) (limits : Limits) (tokens left : List Placed) → front_token tokens ≡ Some sign
    → left ≡ behind_front tokens → Reads (OneToken sign) nothing_further limits tokens left tt
token_reads sign limits [] left at is = absurd cc
token_reads sign limits (first ∷ others) left at is = (
  first ∷ [],
  ap (λ (rest : List Placed). first ∷ rest) (sym is),
  subst (λ (token : Token). IsRead (OneToken sign) nothing_further limits (token ∷ []) (front_token left) tt)
      (token_is first.token sign at) (one_token_read sign limits (front_token left)),
)

token_faults : (sign : Token) (limits : Limits) (left : List Placed) → front_token left ≢ Some sign
    → Faults (OneToken sign) nothing_further limits left left None
token_faults sign limits left other = ([], refl, one_token_fault sign limits (front_token left) other)

-- A WORD BETWEEN PARENTHESES

-- a value, and the closing sign
abbrev pub Ended : {V : Type 0} → V → Production V
Ended value = Saying (λ (sign : Unit {0}). value) (OneToken closing_paren)

abbrev pub WordEnded : {V : Type 0} → (List ℕ → V → Type 0) → Production V
WordEnded Spells = Then (OneWord Spells) Ended

abbrev pub Enclosed : {V : Type 0} → (List ℕ → V → Type 0) → Production V
Enclosed Spells = Then (OneToken opening_paren) (λ (sign : Unit {0}). WordEnded Spells)

ended_some : {V : Type 0} (value : V) → HasReading (Ended value)
ended_some value limits = (closing_paren ∷ [], value, (tt, refl, refl))

enclosed_chosen : {V : Type 0} (Spells : List ℕ → V → Type 0)
    → IsChosen (Enclosed Spells) (AloneOrIn Spells) nothing_further (Some opening_paren)
enclosed_chosen Spells = record {
  wider = λ limits tokens value (sign, first, rest, is, first_is, (said, word, last, rest_is, spelled, ended)). (
    spelled.0,
    subst (λ v. Spells spelled.0 v) (sym ended.1) spelled.2,
    inr (is ∙ ap (λ (text : List Token). text ++ rest) first_is
        ∙ ap (λ (text : List Token). opening_paren ∷ text)
        (rest_is ∙ ap (λ (text : List Token). text ++ last) spelled.1
        ∙ ap (λ (text : List Token). Word spelled.0 ∷ text) ended.2)),
  );
  same = λ limits tokens others value at ends (word, spelled, is).
      elim is as (λ _. Enclosed Spells limits tokens value) [
        | inl alone ↦ let same : Some (Word word) ≡ Some (Mark 40) =
            sym (ap (λ (text : List Token). front (text ++ others)) alone) ∙ at in absurd cc
        | inr enclosed ↦ (
          tt,
          opening_paren ∷ [],
          Word word ∷ closing_paren ∷ [],
          enclosed,
          refl,
          (value, Word word ∷ [], closing_paren ∷ [], refl, (word, refl, spelled), (tt, refl, refl)),
        )
      ];
}

pub alone_chosen : {V : Type 0} (Spells : List ℕ → V → Type 0) (lead : Option Token) → lead ≢ Some opening_paren
    → IsChosen (OneWord Spells) (AloneOrIn Spells) nothing_further lead
alone_chosen Spells lead other = record {
  wider = λ limits tokens value (word, is, spelled). (word, spelled, inl is);
  same = λ limits tokens others value at ends (word, spelled, is).
      elim is as (λ _. OneWord Spells limits tokens value) [
        | inl alone ↦ (word, alone, spelled)
        | inr enclosed ↦ absurd (other (sym at ∙ ap (λ (text : List Token). front (text ++ others)) enclosed))
      ];
}

-- behind the opening sign stand the word and the closing one
enclosed_answers : {V : Type 0} (Spells : List ℕ → V → Type 0) (tokens mid left : List Placed) (end : Place)
    (result : Result V ReadFault) → front_token tokens ≡ Some opening_paren → mid ≡ behind_front tokens
    → Answers (WordEnded Spells) nothing_further in_force mid left end result
    → Answers (AloneOrIn Spells) nothing_further in_force tokens left end result
enclosed_answers Spells tokens mid left end result at mid_is answers =
    chosen_answers (Enclosed Spells) (AloneOrIn Spells) nothing_further in_force tokens left end (Some opening_paren)
    result (enclosed_chosen Spells) at
    (then_answers (OneToken opening_paren) (λ (sign : Unit {0}). WordEnded Spells) nothing_further nothing_further
    in_force tokens mid left end tt result (leads_all nothing_further (λ (sign : Unit {0}). WordEnded Spells))
    (token_grows opening_paren) (token_reads opening_paren in_force tokens mid at mid_is) answers)

pub enclosed_bad_word : {V : Type 0} (Spells : List ℕ → V → Type 0) (tokens mid left : List Placed) (end : Place)
    (fault : ReadFault) → front_token tokens ≡ Some opening_paren → mid ≡ behind_front tokens
    → Answers {V = V} (OneWord Spells) nothing_further in_force mid left end (Err fault)
    → Answers {V = V} (AloneOrIn Spells) nothing_further in_force tokens left end (Err fault)
enclosed_bad_word Spells tokens mid left end fault at mid_is answers =
    enclosed_answers Spells tokens mid left end (Err fault) at mid_is
    (first_answers (OneWord Spells) Ended nothing_further nothing_further in_force mid left end fault
    (leads_all nothing_further Ended) ended_some answers)

pub enclosed_unended : {V : Type 0} (Spells : List ℕ → V → Type 0) (tokens mid left : List Placed) (end : Place)
    (value : V) (fault : ReadFault) → front_token tokens ≡ Some opening_paren → mid ≡ behind_front tokens
    → Reads (OneWord Spells) nothing_further in_force mid left value → front_token left ≢ Some closing_paren
    → fault ≡ Line (BadToken (column left end))
    → Answers {V = V} (AloneOrIn Spells) nothing_further in_force tokens left end (Err fault)
enclosed_unended Spells tokens mid left end value fault at mid_is read other fault_is =
    enclosed_answers Spells tokens mid left end (Err fault) at mid_is
    (then_answers (OneWord Spells) Ended nothing_further nothing_further in_force mid left left end value (Err fault)
    (leads_all nothing_further Ended) (word_grows Spells) read
    (saying_answers (λ (sign : Unit {0}). value) (OneToken closing_paren) nothing_further in_force left left end fault
    (bad_answers (OneToken closing_paren) nothing_further in_force left left end fault fault_is
    (token_faults closing_paren in_force left other))))

pub enclosed_read : {V : Type 0} (Spells : List ℕ → V → Type 0) (tokens mid left behind : List Placed) (end : Place)
    (value : V) → front_token tokens ≡ Some opening_paren → mid ≡ behind_front tokens
    → Reads (OneWord Spells) nothing_further in_force mid left value → front_token left ≡ Some closing_paren
    → behind ≡ behind_front left → Reads (AloneOrIn Spells) nothing_further in_force tokens behind value
enclosed_read Spells tokens mid left behind end value at mid_is read closing behind_is =
    enclosed_answers Spells tokens mid behind end (Ok value) at mid_is
    (then_answers (OneWord Spells) Ended nothing_further nothing_further in_force mid left behind end value (Ok value)
    (leads_all nothing_further Ended) (word_grows Spells) read
    (saying_reads (λ (sign : Unit {0}). value) (OneToken closing_paren) nothing_further in_force left behind tt
    (token_reads closing_paren in_force left behind closing behind_is)))
