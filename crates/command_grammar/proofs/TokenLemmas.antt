-- The answers of readers that take one token at most.
use Rattle.std.proofs.Common.{ℕ, ◌≡◌, ◌≢◌, List, [], ◌∷◌, Option, Some, None, Ok, Err, sym, refl, subst}
use Rattle.token_reader.specs.declared.token.Place.{Place}
use Rattle.token_reader.specs.Places.{start}
use Rattle.token_reader.specs.Tokens.{Token, Placed, Word, front_token, behind_front}
use Rattle.route_grammar.specs.declared.fault.LineFault.TheVariants.{BadToken}
use Rattle.route_grammar.specs.declared.fault.ReadFault.{ReadFault}
use Rattle.route_grammar.specs.declared.fault.ReadFault.TheVariants.{Line}
use Rattle.route_grammar.specs.Limits.{in_force}
use Rattle.route_grammar.specs.Productions.{Production, Further, IsRead, OneToken, OneWord, nothing_further}
use Rattle.route_grammar.specs.Answered.{Answers, Faults, Reads, column}
use Rattle.route_grammar.proofs.ProductionLemmas.{one_token_read, one_token_fault, one_word_read, one_word_fault}

-- a fault at the front token, as a reader tells it
pub blamed : {V : Type 0} (R : Production V) (f : Further) (tokens left : List Placed) (end : Place) (error : ReadFault)
    → error ≡ Line (BadToken (column left end)) → Faults R f in_force tokens left None
    → Answers R f in_force tokens left end (Err error)
blamed {V = V} R f tokens left end error is faults =
    subst (λ (fault : ReadFault). Answers {V = V} R f in_force tokens left end (Err fault)) (sym is) (refl, faults)

token_same : (token other : Token) → Some token ≡ Some other → token ≡ other
token_same token other same = cc

word_same : (token : Option Token) (word other : List ℕ) → token ≡ Some (Word word) → token ≡ Some (Word other)
    → other ≡ word
word_same token word other is also = cc

pub token_ok : (sign : Token) (left : List Placed) (end : Place) → front_token left ≡ Some sign
    → Answers (OneToken sign) nothing_further in_force left (behind_front left) end (Ok tt)
token_ok sign [] end at = absurd (cc)
token_ok sign (one ∷ others) end at =
    let goal : Token → Type 0 =
    λ token. IsRead (OneToken sign) nothing_further in_force (token ∷ []) (front_token others) tt in (
      one ∷ [],
      refl,
      subst goal (sym (token_same one.token sign at)) (one_token_read sign in_force (front_token others)),
    )

pub token_err : (sign : Token) (left : List Placed) (end : Place) (error : ReadFault)
    → error ≡ Line (BadToken (column left end)) → front_token left ≢ Some sign
    → Answers (OneToken sign) nothing_further in_force left left end (Err error)
token_err sign left end error is other =
    blamed (OneToken sign) nothing_further left left end error is
    ([], refl, one_token_fault sign in_force (front_token left) other)

pub word_ok : {V : Type 0} (Spells : List ℕ → V → Type 0) (left : List Placed) (end : Place) (word : List ℕ) (value : V)
    → front_token left ≡ Some (Word word) → Spells word value → ((other : V) → Spells word other → other ≡ value)
    → Answers (OneWord Spells) nothing_further in_force left (behind_front left) end (Ok value)
word_ok Spells [] end word value at spelled only = absurd (cc)
word_ok Spells (one ∷ others) end word value at spelled only =
    let goal : Token → Type 0 =
    λ token. IsRead (OneWord Spells) nothing_further in_force (token ∷ []) (front_token others) value in (
      one ∷ [],
      refl,
      subst goal (sym (token_same one.token (Word word) at))
          (one_word_read Spells in_force word (front_token others) value spelled only),
    )

-- the same of the tokens behind a reader that went past one
pub token_passed : (sign : Token) (left after : List Placed) → after ≡ behind_front left → front_token left ≡ Some sign
    → Reads (OneToken sign) nothing_further in_force left after tt
token_passed sign left after is at =
    let goal : List Placed → Type 0 = λ rest. Reads (OneToken sign) nothing_further in_force left rest tt in
    subst goal (sym is) (token_ok sign left start at)

pub word_passed : {V : Type 0} (Spells : List ℕ → V → Type 0) (left after : List Placed) (word : List ℕ) (value : V)
    → after ≡ behind_front left → front_token left ≡ Some (Word word) → Spells word value
    → ((other : V) → Spells word other → other ≡ value)
    → Reads (OneWord Spells) nothing_further in_force left after value
word_passed Spells left after word value is at spelled only =
    let goal : List Placed → Type 0 = λ rest. Reads (OneWord Spells) nothing_further in_force left rest value in
    subst goal (sym is) (word_ok Spells left start word value at spelled only)

-- a word that spells a value, for a kind of word
pub record Sample {V : Type 0} (Spells : List ℕ → V → Type 0) : Type 0 where
  pub word : List ℕ
  pub value : V
  pub spelled : Spells word value

pub word_err : {V : Type 0} (Spells : List ℕ → V → Type 0) (left : List Placed) (end : Place) (error : ReadFault)
    → error ≡ Line (BadToken (column left end)) → Sample Spells
    → ((text : List ℕ) (said : V) → front_token left ≡ Some (Word text) → Spells text said → ⊥)
    → Answers (OneWord Spells) nothing_further in_force left left end (Err error)
word_err Spells left end error is sample none =
    blamed (OneWord Spells) nothing_further left left end error is
    ([], refl, one_word_fault Spells in_force (front_token left) sample.word sample.value sample.spelled none)

-- where the front token is no word
pub word_missing : {V : Type 0} (Spells : List ℕ → V → Type 0) (left : List Placed) (end : Place) (error : ReadFault)
    → error ≡ Line (BadToken (column left end)) → Sample Spells
    → ((word : List ℕ) → front_token left ≢ Some (Word word))
    → Answers (OneWord Spells) nothing_further in_force left left end (Err error)
word_missing Spells left end error is sample none =
    word_err Spells left end error is sample (λ text said at spelled. none text at)

-- where it is another word
pub word_unlike : {V : Type 0} (Spells : List ℕ → V → Type 0) (left : List Placed) (end : Place) (word : List ℕ)
    (error : ReadFault) → error ≡ Line (BadToken (column left end)) → Sample Spells → front_token left ≡ Some (Word
    word)
    → ((value : V) → Spells word value → ⊥)
    → Answers (OneWord Spells) nothing_further in_force left left end (Err error)
word_unlike Spells left end word error is sample at none =
    word_err Spells left end error is sample (λ text said also spelled.
    none said (subst (λ (other : List ℕ). Spells other said) (word_same (front_token left) word text at also) spelled))
