-- The answers of readers of productions that are put together.
use Rattle.std.proofs.Common.{ℕ, ◌≡◌, false, List, [], ◌∷◌, ◌++◌, Option, Some, None, Result, Ok, Err, ap}
use Rattle.std.proofs.Common.{sym, ◌∙◌, refl, subst, append_assoc, append-nil}
use Rattle.std.proofs.lemmas.Bool.{false≢true}
use Rattle.token_reader.specs.declared.token.Place.{Place}
use Rattle.token_reader.specs.Tokens.{Token, Placed, Word, front_token}
use Rattle.route_grammar.specs.declared.fault.LineFault.TheVariants.{BadToken}
use Rattle.route_grammar.specs.declared.fault.ReadFault.{ReadFault}
use Rattle.route_grammar.specs.declared.fault.ReadFault.TheVariants.{Line}
use Rattle.route_grammar.specs.Limits.{Counted, Limits, in_force, raised}
use Rattle.route_grammar.specs.Productions.{Production, Further, Begins, IsRead, IsOver, OneToken, OneWord}
use Rattle.route_grammar.specs.Productions.{Then, front}
use Rattle.route_grammar.specs.Productions.{nothing_further, all_further}
use Rattle.route_grammar.specs.Answered.{tokens_of, Answers, Reads, column}
use Rattle.route_grammar.proofs.ProductionLemmas.{Leads, leads_all, HasReading, Grows, cut_again}
use Rattle.route_grammar.proofs.AnsweredLemmas.{fault_answers, then_answers, first_answers}
use Rattle.command_grammar.specs.Forms.{Ended, Where, Behind}
use Rattle.command_grammar.proofs.TokenLemmas.{blamed}

-- BEHIND A WORD

pub token_grows : (sign : Token) → Grows (OneToken sign)
token_grows sign limits which tokens value is = is

pub behind_ok : {V : Type 0} (word : List ℕ) (R : Production V) (f : Further) (tokens mid left : List Placed)
    (end : Place) (answer : Result V ReadFault) → Reads (OneToken (Word word)) nothing_further in_force tokens mid tt
    → Answers R f in_force mid left end answer → Answers (Behind word R) f in_force tokens left end answer
behind_ok word R f tokens mid left end answer first second =
    then_answers (OneToken (Word word)) (λ said. R) nothing_further f in_force tokens mid left end tt answer
    (leads_all f (λ (said : Unit {0}). R)) (token_grows (Word word)) first second

pub behind_err : {V : Type 0} (word : List ℕ) (R : Production V) (f : Further) (tokens left : List Placed) (end : Place)
    (error : ReadFault) → HasReading R
    → Answers (OneToken (Word word)) nothing_further in_force tokens left end (Err error)
    → Answers (Behind word R) f in_force tokens left end (Err error)
behind_err word R f tokens left end error some first =
    first_answers (OneToken (Word word)) (λ said. R) nothing_further f in_force tokens left end error
    (leads_all f (λ (said : Unit {0}). R)) (λ said. some) first

pub behind_some : {V : Type 0} (word : List ℕ) (R : Production V) → HasReading R → HasReading (Behind word R)
behind_some word R some limits =
    let rest = some limits in
    (Word word ∷ rest.0, rest.1, (tt, Word word ∷ [], rest.0, refl, refl, rest.2))

-- THE END

ended_read : {V : Type 0} (said : V) (token : Option Token) → token ≡ None
    → IsRead (Ended said) all_further in_force [] token said
ended_read said token at = record {
  found = (refl, refl);
  ends = ap all_further at;
  only = λ held rest tokens others value at_rest same is ends. is;
}

pub ended_ok : {V : Type 0} (said : V) (left : List Placed) (end : Place) → left ≡ []
    → Answers (Ended said) all_further in_force left left end (Ok said)
ended_ok said left end none = ([], refl, ended_read said (front_token left) (ap front_token none))

no_end_there : (left : List Placed) (rest others : List Token) → (left ≡ [] → ⊥) → front rest ≡ front_token left
    → rest ≡ others → all_further (front others) ≡ false → ⊥
no_end_there [] rest others some at same ends = some refl
no_end_there (one ∷ left) rest others some at same ends =
    false≢true (sym ends ∙ ap (λ (tokens : List Token). all_further (front tokens)) (sym same) ∙ ap all_further at)

pub ended_err : {V : Type 0} (said : V) (left : List Placed) (end : Place) (error : ReadFault)
    → error ≡ Line (BadToken (column left end)) → (left ≡ [] → ⊥)
    → Answers (Ended said) all_further in_force left left end (Err error)
ended_err said left end error blames some =
    blamed (Ended said) all_further left left end error blames (
      [],
      refl,
      record {
        begins = ([], said, (refl, refl));
        none = λ held rest tokens others value is_held at same is ends.
            no_end_there left rest others some at
            (same ∙ ap (λ (front_tokens : List Token). front_tokens ++ others) is.0) ends;
        over_is = tt;
      },
    )

pub ended_some : {V : Type 0} (said : V) → HasReading (Ended said)
ended_some said limits = ([], said, (refl, refl))

-- UNDER A CONDITION

-- the condition holds under the limits in force, and with one of them raised
pub record Holds (Allowed : Limits → Type 0) : Type 0 where
  pub now : Allowed in_force
  pub more : (which : Counted) → Allowed (raised which in_force)

where_over : {V : Type 0} (Allowed : Limits → Type 0) (R : Production V) (before : List Token) (token : Option Token)
    (over : Option Counted) → Holds Allowed → IsOver R in_force before token over
    → IsOver (Where Allowed R) in_force before token over
where_over Allowed R before token None holds is = tt
where_over Allowed R before token (Some which) holds (word, is, (more, value, read)) =
    (word, is, (more, value, (holds.more which, read)))

pub where_answers : {V : Type 0} (Allowed : Limits → Type 0) (R : Production V) (f : Further)
    (tokens left : List Placed) (end : Place) (answer : Result V ReadFault) → Holds Allowed
    → Answers R f in_force tokens left end answer → Answers (Where Allowed R) f in_force tokens left end answer
where_answers Allowed R f tokens left end (Ok value) holds (part, is, read) = (
  part,
  is,
  record {
    found = (holds.now, read.found);
    ends = read.ends;
    only = λ held rest tokens others said at same also ends. read.only held rest tokens others said at same also.1 ends;
  },
)
where_answers Allowed R f tokens left end (Err error) holds given =
    fault_answers R (Where Allowed R) f f in_force tokens tokens left end error
    (λ over (part, is, fault). (
      part,
      is,
      record {
        begins = (fault.begins.0, fault.begins.1, (holds.now, fault.begins.2));
        none = λ held rest tokens others value is_held at same also ends.
            fault.none held rest tokens others value is_held at same also.1 ends;
        over_is = where_over Allowed R (tokens_of part) (front_token left) over holds fault.over_is;
      },
    )) given

-- A FIRST PART THAT ISN'T ENOUGH

-- each reading of the first part has further tokens that make it one of both
pub record Completes {V W : Type 0} (P : Production V) (S : V → Production W) : Type 0 where
  pub more : (limits : Limits) (tokens : List Token) (said : V) → P limits tokens said
      → (behind : List Token) × (value : W) × Then P S limits (tokens ++ behind) value

completed : {V W : Type 0} (P : Production V) (S : V → Production W) (limits : Limits) (before : List Token)
    → Completes P S → Begins P limits before → Begins (Then P S) limits before
completed P S limits before completes (more, said, first) =
    let rest = completes.more limits (before ++ more) said first in
    let goal : List Token → Type 0 = λ tokens. Then P S limits tokens rest.1 in
    (more ++ rest.0, rest.1, subst goal (append_assoc before more rest.0) rest.2)

completed_over : {V W : Type 0} (P : Production V) (S : V → Production W) (limits : Limits) (before : List Token)
    (token : Option Token) (over : Option Counted) → Completes P S → IsOver P limits before token over
    → IsOver (Then P S) limits before token over
completed_over P S limits before token None completes is = tt
completed_over P S limits before token (Some which) completes (word, is, begins) =
    (word, is, completed P S (raised which limits) (before ++ Word word ∷ []) completes begins)

-- the fault of the first part is that of both
pub completed_answers : {V W : Type 0} (P : Production V) (S : V → Production W) (f g : Further)
    (tokens left : List Placed) (end : Place) (error : ReadFault) → Leads f g S → Completes P S
    → Answers P f in_force tokens left end (Err error) → Answers (Then P S) g in_force tokens left end (Err error)
completed_answers P S f g tokens left end error leads completes given =
    fault_answers P (Then P S) f g in_force tokens tokens left end error
    (λ over (part, is, fault). (
      part,
      is,
      record {
        begins = completed P S in_force (tokens_of part) completes fault.begins;
        none = λ held rest tokens others value is_held at same read ends.
            fault.none held rest read.1 (read.2 ++ others) read.0 is_held at
            (cut_again (tokens_of part ++ rest) tokens others read.1 read.2 same read.3) read.4
            (leads held read.0 read.2 others value read.5 ends);
        over_is = completed_over P S in_force (tokens_of part) (front_token left) over completes fault.over_is;
      },
    )) given

-- where nothing is read behind what the first part said, the token behind it is at fault
pub unfinished : {V W : Type 0} (P : Production V) (S : V → Production W) (f g : Further) (tokens left : List Placed)
    (end : Place) (said : V) (error : ReadFault) → error ≡ Line (BadToken (column left end)) → Leads f g S
    → Completes P S → ((limits : Limits) (others : List Token) (value : W) → S said limits others value → ⊥)
    → Reads P f in_force tokens left said → Answers (Then P S) g in_force tokens left end (Err error)
unfinished {V = V} P S f g tokens left end said error blames leads completes nothing (part, is, read) =
    blamed (Then P S) g tokens left end error blames (
      part,
      is,
      record {
        begins = completed P S in_force (tokens_of part) completes (
          [],
          said,
          subst (λ (all : List Token). P in_force all said) (sym (append-nil (tokens_of part)))
              read.found,
        );
        none = λ held rest tokens others value is_held at same both ends.
            let first = read.only held rest both.1 (both.2 ++ others) both.0 at
            (cut_again (tokens_of part ++ rest) tokens others both.1 both.2 same both.3) both.4
            (leads held both.0 both.2 others value both.5 ends) in
            nothing held both.2 value (subst (λ (v : V). S v held both.2 value) first.1 both.5);
        over_is = tt;
      },
    )

-- WHAT CAN BE READ

pub word_grows : {V : Type 0} (Spells : List ℕ → V → Type 0) → Grows (OneWord Spells)
word_grows Spells limits which tokens value is = is

-- a first part that is read, and then some second one
pub then_with : {V W : Type 0} (P : Production V) (S : V → Production W) (limits : Limits) (tokens : List Token)
    (said : V) → P limits tokens said → ((text : List Token) × (value : W) × S said limits text value)
    → (text : List Token) × (value : W) × Then P S limits text value
then_with P S limits tokens said first (text, value, second) =
    (tokens ++ text, value, (said, tokens, text, refl, first, second))
