-- The words of `run`, as the code holds them.
use Rattle.std.proofs.Common.{
  ℕ,
  ◌≡◌,
  ◌<◌,
  ◌≤◌,
  ◌+◌,
  Bool,
  true,
  false,
  nat_lt,
  List,
  [],
  ◌∷◌,
  ◌++◌,
  length,
  Option,
  Some,
}
use Rattle.std.proofs.Common.{None, Result, Ok, Err, arith, sym, ◌∙◌, ap, refl, subst, inl, append_assoc}
use Rattle.std.proofs.lemmas.Bool.{false≢true}
use Rattle.arrayvec.specs.ArrayVec.{ArrayVec}
use Rattle.token_reader.specs.declared.token.Place.{Place}
use Rattle.token_reader.specs.Tokens.{Token, Placed}
use Rattle.config_model.specs.declared.fault.ConfigKind.{ConfigKind}
use Rattle.config_model.specs.declared.fault.ConfigKind.TheVariants.{Many}
use Rattle.config_reader.specs.declared.joined.Joined.{Joined}
use Rattle.config_reader.specs.declared.fault.ConfigError.{ConfigError}
use Rattle.config_reader.specs.declared.fault.ConfigError.TheVariants.{Refused, NoMemory}
use Rattle.config_reader.specs.Answered.{Answers}
use Rattle.config_reader.specs.Joined.{Holds, Joins, JoinedAnswers}
use Rattle.config_reader.specs.Words.{any_word}
use Rattle.config_reader.specs.Processes.{joined, run_words, words_joined}
use Rattle.config_reader.specs.Rules.{Rule, Gives, where_so, sign_or, saying}
use Rattle.config_reader.proofs.RuleLemmas.{second_stops}

none_so : (over : Bool) → where_so Many over ≡ None → over ≡ false
none_so false is = refl
none_so true is = absurd (cc)

same_bytes : (bytes : ArrayVec ℕ) (run : List ℕ) → bytes.items ≡ run → bytes ≡ record { items = run }
same_bytes bytes run is = ap (λ (items : List ℕ). record { items = items }) is

-- the words are not too many, and `;` ends them
pub run_ended : (joined : Joined) (run : List ℕ) (wrong : Option ConfigKind) (end : Place)
    (tokens mid left : List Placed) → words_joined end tokens (Gives run mid) → Holds joined run
    → wrong ≡ where_so Many (nat_lt 1024 (length run)) → sign_or 59 wrong end mid (Gives tt left)
    → run_words end tokens (Gives joined.bytes left)
run_ended joined run wrong end tokens mid left here holds is passed =
    let few : nat_lt 1024 (length run) ≡ false = none_so (nat_lt 1024 (length run)) (sym is ∙ passed.3) in
    let fits : joined.over ≡ false = holds.over ∙ few in (
      run,
      mid,
      here,
      (
        tt,
        left,
        subst (λ (kind : Option ConfigKind). sign_or 59 kind end mid (Gives tt left)) is passed,
        ap (λ (bytes : ArrayVec ℕ). Gives bytes left) (same_bytes joined.bytes run (holds.bytes fits)),
      ),
    )

-- a further word isn't there
pub joins_stops : (run : List ℕ) (joined : Joined) (end : Place) (tokens left other : List Placed) (error : ConfigError)
    → Joins run joined end tokens left (Err error) → Answers any_word end tokens other (Err error)
joins_stops run joined end tokens left other (Refused fault) is = is
joins_stops run joined end tokens left other NoMemory is = absurd is

pub held_stops : (R : Rule (List ℕ)) (end : Place) (tokens left : List Placed) (error : ConfigError)
    → Answers R end tokens left (Err error) → JoinedAnswers R end tokens left (Err error)
held_stops R end tokens left (Refused fault) is = is
held_stops R end tokens left NoMemory is = tt

-- a further word behind a zero byte
pub joins_holds : (run next : List ℕ) (joined : Joined) → Holds joined ((run ++ 0 ∷ []) ++ next)
    → Holds joined (run ++ 0 ∷ next)
joins_holds run next joined holds =
    subst (λ (bytes : List ℕ). Holds joined bytes) (append_assoc run (0 ∷ []) next) holds

pub joins_more : (run next : List ℕ) (end : Place) (tokens left : List Placed)
    → any_word end tokens (Gives next left) → joined run end tokens (Gives (run ++ 0 ∷ next) left)
joins_more run next end tokens left is = (next, left, is, refl)

-- reading `run` stops at a word, or at the end of the words
pub run_stops_first : (end : Place) (tokens left other : List Placed) (error : ConfigError)
    → JoinedAnswers words_joined end tokens left (Err error) → Answers run_words end tokens other (Err error)
run_stops_first end tokens left other (Refused fault) is = inl is
run_stops_first end tokens left other NoMemory is = tt

pub run_stops_last : (run : List ℕ) (wrong : Option ConfigKind) (end second : Place)
    (tokens mid left other : List Placed) (error : ConfigError) → words_joined end tokens (Gives run mid)
    → wrong ≡ where_so Many (nat_lt 1024 (length run)) → second ≡ end
    → Answers (sign_or 59 wrong) second mid left (Err error) → Answers run_words end tokens other (Err error)
run_stops_last run wrong end second tokens mid left other error here is same late =
    second_stops words_joined (λ text. sign_or 59 (where_so Many (nat_lt 1024 (length text))))
    (λ text ended. saying (record { items = text })) end second tokens mid left other run error here same
    (subst (λ (kind : Option ConfigKind). Answers (sign_or 59 kind) second mid left (Err error)) is late)
