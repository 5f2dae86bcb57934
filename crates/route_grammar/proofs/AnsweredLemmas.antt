-- Answers of readers that are put together, over the tokens that stand before them and those that they leave.
use Rattle.std.proofs.Common.{◌≡◌, List, [], ◌∷◌, ◌++◌, length, Option, Some, None, Result, Ok, Err}
use Rattle.std.proofs.Common.{ap, sym, ◌∙◌, refl, subst, append_assoc}
use Rattle.std.proofs.lemmas.List.{map-append}
use Rattle.token_reader.specs.declared.token.Place.{Place}
use Rattle.token_reader.specs.Tokens.{Token, Placed, front_token}
use Rattle.route_grammar.specs.declared.fault.LineFault.TheVariants.{BadToken, TooMany, TooLong}
use Rattle.route_grammar.specs.declared.fault.ReadFault.{ReadFault}
use Rattle.route_grammar.specs.declared.fault.ReadFault.TheVariants.{Line, NoMemory}
use Rattle.route_grammar.specs.Limits.{Counted, Limits}
use Rattle.route_grammar.specs.Productions.{Production, Further, IsFault, IsRead, Then, Saying, all_further}
use Rattle.route_grammar.specs.Productions.{IsFirstFault, front}
use Rattle.route_grammar.specs.Answered.{tokens_of, Faults, Reads, Answers}
use Rattle.route_grammar.proofs.ProductionLemmas.{front_or, Leads, HasReading, Grows, IsChosen}
use Rattle.route_grammar.proofs.ProductionLemmas.{then_fault_first, then_fault_second, then_read, saying_read}
use Rattle.route_grammar.proofs.ProductionLemmas.{saying_fault, chosen_read, chosen_fault}

-- the front of placed tokens
pub front_token_or : (before left : List Placed)
    → front_token (before ++ left) ≡ front_or (tokens_of before) (front_token left)
front_token_or [] left = refl
front_token_or (first ∷ before) left = refl

pub front_tokens_of : (left : List Placed) → front (tokens_of left) ≡ front_token left
front_tokens_of [] = refl
front_tokens_of (first ∷ left) = refl

pub tokens_append : (before left : List Placed) → tokens_of (before ++ left) ≡ tokens_of before ++ tokens_of left
tokens_append before left = map-append (λ one. one.token) before left

-- a reader's fault is one of a whole that has its fault there
pub fault_answers : {V W : Type 0} (R : Production V) (T : Production W) (further whole_further : Further)
    (limits : Limits) (tokens whole left : List Placed) (end : Place) (fault : ReadFault)
    → ((over : Option Counted) → Faults R further limits tokens left over → Faults T whole_further limits whole left
    over)
    → Answers {V = V} R further limits tokens left end (Err fault)
    → Answers {V = W} T whole_further limits whole left end (Err fault)
fault_answers R T further whole_further limits tokens whole left end (Line (BadToken place)) faults is =
    (is.0, faults None is.1)
fault_answers R T further whole_further limits tokens whole left end (Line (TooMany place limit)) faults is =
    (is.0, is.1, is.2, faults (Some is.0) is.3)
fault_answers R T further whole_further limits tokens whole left end (Line TooLong) faults is = is
fault_answers R T further whole_further limits tokens whole left end NoMemory faults is = tt

-- ONE AFTER ANOTHER

pub then_faults_first : {V W : Type 0} (R : Production V) (S : V → Production W) (first_further further : Further)
    (limits : Limits) (tokens left : List Placed) (over : Option Counted) → Leads first_further further S
    → ((first : V) → HasReading (S first)) → Faults R first_further limits tokens left over
    → Faults (Then R S) further limits tokens left over
then_faults_first R S first_further further limits tokens left over leads some faults = (
  faults.0,
  faults.1,
  then_fault_first R S first_further further limits (tokens_of faults.0) (front_token left) over leads some faults.2,
)

-- the tokens before two parts
pub both_before : (tokens mid left before inner : List Placed) → tokens ≡ before ++ mid → mid ≡ inner ++ left
    → tokens ≡ (before ++ inner) ++ left
both_before tokens mid left before inner first second =
    first ∙ ap (λ (rest : List Placed). before ++ rest) second ∙ sym (append_assoc before inner left)

pub lead_of : (mid left inner : List Placed) → mid ≡ inner ++ left
    → front_token mid ≡ front_or (tokens_of inner) (front_token left)
lead_of mid left inner is = ap front_token is ∙ front_token_or inner left

pub then_faults_second : {V W : Type 0} (R : Production V) (S : V → Production W) (first_further further : Further)
    (limits : Limits) (tokens mid left : List Placed) (first : V) (over : Option Counted) → Leads first_further
    further S
    → Grows R → Reads R first_further limits tokens mid first → Faults (S first) further limits mid left over
    → Faults (Then R S) further limits tokens left over
then_faults_second R S first_further further limits tokens mid left first over leads grows read faults = (
  read.0 ++ faults.0,
  both_before tokens mid left read.0 faults.0 read.1 faults.1,
  subst (λ (before : List Token). IsFault (Then R S) further limits before (front_token left) over)
      (sym (tokens_append read.0 faults.0))
      (then_fault_second R S first_further further limits (tokens_of read.0) (tokens_of faults.0) (front_token left)
      (front_token mid) first over leads grows read.2 (lead_of mid left faults.0 faults.1) faults.2),
)

pub then_reads : {V W : Type 0} (R : Production V) (S : V → Production W) (first_further further : Further)
    (limits : Limits) (tokens mid left : List Placed) (first : V) (value : W) → Leads first_further further S
    → Reads R first_further limits tokens mid first → Reads (S first) further limits mid left value
    → Reads (Then R S) further limits tokens left value
then_reads R S first_further further limits tokens mid left first value leads read second = (
  read.0 ++ second.0,
  both_before tokens mid left read.0 second.0 read.1 second.1,
  subst (λ (before : List Token). IsRead (Then R S) further limits before (front_token left) value)
      (sym (tokens_append read.0 second.0))
      (then_read R S first_further further limits (tokens_of read.0) (tokens_of second.0) (front_token left)
      (front_token mid) first value leads read.2 (lead_of mid left second.0 second.1) second.2),
)

-- the answer of a second reader is that of the whole
pub then_answers : {V W : Type 0} (R : Production V) (S : V → Production W) (first_further further : Further)
    (limits : Limits) (tokens mid left : List Placed) (end : Place) (first : V) (result : Result W ReadFault)
    → Leads first_further further S → Grows R → Reads R first_further limits tokens mid first
    → Answers (S first) further limits mid left end result → Answers (Then R S) further limits tokens left end result
then_answers R S first_further further limits tokens mid left end first (Ok value) leads grows read is =
    then_reads R S first_further further limits tokens mid left first value leads read is
then_answers R S first_further further limits tokens mid left end first (Err fault) leads grows read is =
    fault_answers (S first) (Then R S) further further limits mid tokens left end fault
    (λ over faults. then_faults_second R S first_further further limits tokens mid left first over leads grows read
    faults)
    is

-- and so is a fault of the first reader
pub first_answers : {V W : Type 0} (R : Production V) (S : V → Production W) (first_further further : Further)
    (limits : Limits) (tokens left : List Placed) (end : Place) (fault : ReadFault) → Leads first_further further S
    → ((first : V) → HasReading (S first)) → Answers {V = V} R first_further limits tokens left end (Err fault)
    → Answers {V = W} (Then R S) further limits tokens left end (Err fault)
first_answers R S first_further further limits tokens left end fault leads some is =
    fault_answers R (Then R S) first_further further limits tokens tokens left end fault
    (λ over faults. then_faults_first R S first_further further limits tokens left over leads some faults) is

-- IN OTHER WORDS

pub saying_reads : {V W : Type 0} (say : V → W) (R : Production V) (further : Further) (limits : Limits)
    (tokens left : List Placed) (value : V) → Reads R further limits tokens left value
    → Reads (Saying say R) further limits tokens left (say value)
saying_reads say R further limits tokens left value read =
    (read.0, read.1, saying_read say R further limits (tokens_of read.0) (front_token left) value read.2)

pub saying_answers : {V W : Type 0} (say : V → W) (R : Production V) (further : Further) (limits : Limits)
    (tokens left : List Placed) (end : Place) (fault : ReadFault)
    → Answers {V = V} R further limits tokens left end (Err fault)
    → Answers {V = W} (Saying say R) further limits tokens left end (Err fault)
saying_answers say R further limits tokens left end fault is =
    fault_answers R (Saying say R) further further limits tokens tokens left end fault
    (λ over faults. (
      faults.0,
      faults.1,
      saying_fault say R further limits (tokens_of faults.0) (front_token left) over faults.2,
    )) is

-- A CHOICE BY THE FRONT TOKEN

pub chosen_answers : {V : Type 0} (R T : Production V) (further : Further) (limits : Limits)
    (tokens left : List Placed) (end : Place) (lead : Option Token) (result : Result V ReadFault)
    → IsChosen R T further lead → front_token tokens ≡ lead → Answers R further limits tokens left end result
    → Answers T further limits tokens left end result
chosen_answers R T further limits tokens left end lead (Ok value) chosen begins is = (
  is.0,
  is.1,
  chosen_read R T further limits (tokens_of is.0) (front_token left) lead value chosen
      (sym begins ∙ lead_of tokens left is.0 is.1) is.2,
)
chosen_answers R T further limits tokens left end lead (Err fault) chosen begins is =
    fault_answers R T further further limits tokens tokens left end fault
    (λ over faults. (
      faults.0,
      faults.1,
      chosen_fault R T further limits (tokens_of faults.0) (front_token left) lead over chosen
          (sym begins ∙ lead_of tokens left faults.0 faults.1) faults.2,
    )) is

-- THE WHOLE LINE

-- where all tokens have to be read, a reader's fault is the first fault of them
pub first_fault_of : {V : Type 0} (R : Production V) (limits : Limits) (tokens left : List Placed) (over : Option
    Counted)
    → (faults : Faults R all_further limits tokens left over)
    → IsFirstFault R limits (tokens_of tokens) (length (tokens_of faults.0)) over
first_fault_of R limits tokens left over faults = (
  tokens_of faults.0,
  tokens_of left,
  ap tokens_of faults.1 ∙ tokens_append faults.0 left,
  refl,
  subst (λ token. IsFault R all_further limits (tokens_of faults.0) token over) (sym (front_tokens_of left)) faults.2,
)
