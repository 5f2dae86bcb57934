-- The front word of placed tokens, and the tokens at which a reader stops.
use Rattle.std.proofs.Common.{ℕ, ◌≡◌, List, [], ◌∷◌, Some, None, Err, sym, refl, subst}
use Rattle.token_reader.specs.declared.token.Place.{Place}
use Rattle.token_reader.specs.Tokens.{Token, Word, Placed, front_token, behind_front}
use Rattle.route_grammar.specs.declared.fault.LineFault.TheVariants.{BadToken, TooMany}
use Rattle.route_grammar.specs.declared.fault.ReadFault.{ReadFault}
use Rattle.route_grammar.specs.declared.fault.ReadFault.TheVariants.{Line}
use Rattle.route_grammar.specs.Limits.{Counted, Limits}
use Rattle.route_grammar.specs.Productions.{Production, Further, OneWord, nothing_further, IsRead}
use Rattle.route_grammar.specs.Answered.{column, Faults, Reads, Answers}
use Rattle.route_grammar.proofs.ProductionLemmas.{one_word_read, one_word_fault}

-- a fault at the front token is what the reader blames
pub bad_answers : {V : Type 0} (R : Production V) (further : Further) (limits : Limits) (tokens left : List Placed)
    (end : Place) (fault : ReadFault) → fault ≡ Line (BadToken (column left end))
    → Faults R further limits tokens left None → Answers {V = V} R further limits tokens left end (Err fault)
bad_answers {V = V} R further limits tokens left end fault is faults =
    subst (λ error. Answers {V = V} R further limits tokens left end (Err error)) (sym is) (refl, faults)

pub many_answers : {V : Type 0} (R : Production V) (further : Further) (limits : Limits) (tokens left : List Placed)
    (end : Place) (fault : ReadFault) (which : Counted) (limit : ℕ) → fault ≡ Line (TooMany (column left end) limit)
    → limit ≡ limits which → Faults R further limits tokens left (Some which)
    → Answers {V = V} R further limits tokens left end (Err fault)
many_answers {V = V} R further limits tokens left end fault which limit is in_force faults =
    subst (λ error. Answers {V = V} R further limits tokens left end (Err error)) (sym is) (
      which,
      in_force,
      refl,
      faults,
    )

word_is : (token : Token) (word : List ℕ) → Some token ≡ Some (Word word) → Word word ≡ token
word_is token word same = cc

pub word_reads : {V : Type 0} (Spells : List ℕ → V → Type 0) (limits : Limits) (left : List Placed) (word : List ℕ)
    (value : V) → front_token left ≡ Some (Word word) → Spells word value
    → ((other : V) → Spells word other → other ≡ value)
    → Reads (OneWord Spells) nothing_further limits left (behind_front left) value
word_reads Spells limits [] word value at spelled only = absurd cc
word_reads Spells limits (first ∷ others) word value at spelled only = (
  first ∷ [],
  refl,
  subst (λ (token : Token). IsRead (OneWord Spells) nothing_further limits (token ∷ []) (front_token others) value)
      (word_is first.token word at) (one_word_read Spells limits word (front_token others) value spelled only),
)

pub word_faults : {V : Type 0} (Spells : List ℕ → V → Type 0) (limits : Limits) (left : List Placed)
    → ((word : List ℕ) × (value : V) × Spells word value)
    → ((word : List ℕ) (value : V) → front_token left ≡ Some (Word word) → Spells word value → ⊥)
    → Faults (OneWord Spells) nothing_further limits left left None
word_faults Spells limits left some none =
    ([], refl, one_word_fault Spells limits (front_token left) some.0 some.1 some.2 none)
