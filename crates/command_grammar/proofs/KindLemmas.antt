-- Kinds of lines, and the first token of each.
use Rattle.std.proofs.Common.{ℕ, ◌≡◌, ◌≢◌, Bool, true, codes, List, [], ◌∷◌, ◌++◌}
use Rattle.std.proofs.Common.{Option, Some, Result, inl, inr, if◌then◌else◌, arith, ap, sym, ◌∙◌, refl}
use Rattle.std.proofs.Common.{subst}
use Rattle.std.proofs.lemmas.Bool.{false≢true, eqb-true}
use Rattle.std.specs.List.{list_any}
use Rattle.std.specs.Str.{bytes_eq}
use Rattle.route_values.specs.declared.pick.Pick.{Pick}
use Rattle.token_reader.specs.declared.token.Place.{Place}
use Rattle.token_reader.specs.Tokens.{Token, Placed, Word, front_token, behind_front}
use Rattle.route_grammar.specs.declared.fault.ReadFault.{ReadFault}
use Rattle.route_grammar.specs.Limits.{Limits, in_force}
use Rattle.route_grammar.specs.Productions.{OneWord, Then, front}
use Rattle.route_grammar.specs.Productions.{nothing_further, all_further}
use Rattle.route_grammar.specs.Answered.{Answers, Reads}
use Rattle.route_grammar.proofs.ProductionLemmas.{leads_all, IsChosen}
use Rattle.route_grammar.proofs.AnsweredLemmas.{then_answers, chosen_answers}
use Rattle.command_grammar.specs.declared.command.Command.{Command}
use Rattle.command_grammar.specs.declared.command.Command.TheVariants as said
use Rattle.command_grammar.specs.declared.keywords.Verb.{Verb}
use Rattle.command_grammar.specs.declared.keywords.Verb.TheVariants.{Announce, Withdraw, Flush, Clear, Show, Teardown}
use Rattle.command_grammar.specs.Forms.{Ended}
use Rattle.command_grammar.specs.Keywords.{IsSole, verb_word}
use Rattle.command_grammar.specs.Lines.{is_remark, Spoken}
use Rattle.command_grammar.specs.Selectors.{Picks}
use Rattle.command_grammar.specs.Targets.{Targeted}
use Rattle.command_grammar.proofs.FormLemmas.{word_grows}
use Rattle.command_grammar.proofs.SelectorLemmas.{lead_token}
use Rattle.command_grammar.proofs.TokenLemmas.{word_passed}
use Rattle.command_grammar.proofs.VerbLemmas.{verb_first}

-- ---- the kinds of lines, by their first token: remarks, words that are lines, picks, and the rest

pub is_sole : List ℕ → Bool
is_sole word =
    list_any (λ one. bytes_eq word one)
    (codes "reload" ∷ codes "shutdown" ∷ codes "disable-ack" ∷ codes "enable-ack" ∷ [])

pub kind_of : List ℕ → ℕ
kind_of word =
    if is_remark (Some (Word word)) then 0 else
    (if is_sole word then 1 else
    (if bytes_eq word (codes "neighbor") then 2 else 3))

pub kind_at : Option Token → ℕ
kind_at (Some (Word word)) = kind_of word
kind_at _ = 4

sole_kind : (word : List ℕ) (command : Command) → IsSole word command → kind_of word ≡ 1
unfolding kind_of is_sole
sole_kind word said.Reload is = ap kind_of is
sole_kind word said.Shutdown is = ap kind_of is
sole_kind word said.DisableAck is = ap kind_of is
sole_kind word said.EnableAck is = ap kind_of is
sole_kind word (said.Announce pick keys attrs) is = absurd is
sole_kind word (said.Withdraw pick keys) is = absurd is
sole_kind word (said.Flush pick) is = absurd is
sole_kind word (said.Clear pick) is = absurd is
sole_kind word (said.Show pick within) is = absurd is
sole_kind word (said.Teardown pick code) is = absurd is
sole_kind word said.Comment is = absurd is

verb_kind : (verb : Verb) → kind_of (verb_word verb) ≡ 3
unfolding kind_of is_sole
verb_kind Announce = refl
verb_kind Withdraw = refl
verb_kind Flush = refl
verb_kind Clear = refl
verb_kind Show = refl
verb_kind Teardown = refl

neighbor_kind : kind_of (codes "neighbor") ≡ 2
unfolding kind_of is_sole
neighbor_kind = refl

-- a command that is a line by itself is told by its word
sole_from : List ℕ → Command
sole_from word =
    if bytes_eq word (codes "reload") then said.Reload else
    (if bytes_eq word (codes "shutdown") then said.Shutdown else
    (if bytes_eq word (codes "disable-ack") then said.DisableAck else said.EnableAck))

sole_is : (word : List ℕ) (command : Command) → IsSole word command → sole_from word ≡ command
unfolding sole_from
sole_is word said.Reload is = ap sole_from is
sole_is word said.Shutdown is = ap sole_from is
sole_is word said.DisableAck is = ap sole_from is
sole_is word said.EnableAck is = ap sole_from is
sole_is word (said.Announce pick keys attrs) is = absurd is
sole_is word (said.Withdraw pick keys) is = absurd is
sole_is word (said.Flush pick) is = absurd is
sole_is word (said.Clear pick) is = absurd is
sole_is word (said.Show pick within) is = absurd is
sole_is word (said.Teardown pick code) is = absurd is
sole_is word said.Comment is = absurd is

sole_once : (word : List ℕ) (command other : Command) → IsSole word command → IsSole word other → other ≡ command
sole_once word command other is also = sym (sole_is word other also) ∙ sole_is word command is

-- ---- the first token of each kind of line

sole_first : (limits : Limits) (tokens others : List Token) (value : Command)
    → Then (OneWord IsSole) Ended limits tokens value
    → (word : List ℕ) × (command : Command) × (front (tokens ++ others) ≡ Some (Word word)) × IsSole word command
sole_first limits tokens others value read = (
  read.4.0,
  read.0,
  lead_token (Word read.4.0) tokens read.1 read.2 others read.3 read.4.1,
  read.4.2,
)

picks_first : (limits : Limits) (tokens others : List Token) (value : Command)
    → Then Picks Targeted limits tokens value → front (tokens ++ others) ≡ Some (Word (codes "neighbor"))
picks_first limits tokens others value read =
    let pick : read.4.1 ≡ (Word (codes "neighbor") ∷ []) ++ read.4.4.2 =
    read.4.4.3 ∙ ap (λ (part : List Token). part ++ read.4.4.2) read.4.4.4 in
    ap (λ (all : List Token). front (all ++ others))
    (read.3 ∙ ap (λ (part : List Token). part ++ read.2)
    (read.4.3 ∙ ap (λ (part : List Token). part ++ read.4.2) pick))

-- the kind of a line that is no remark
pub data Kinds (token : Option Token) : Type 0 where
  sole : (word : List ℕ) (command : Command) → token ≡ Some (Word word) → IsSole word command → Kinds token
  picked : token ≡ Some (Word (codes "neighbor")) → Kinds token
  wanted : (verb : Verb) → token ≡ Some (Word (verb_word verb)) → Kinds token

pub spoken_kinds : (limits : Limits) (tokens others : List Token) (value : Command) → Spoken limits tokens value
    → Kinds (front (tokens ++ others))
spoken_kinds limits tokens others value (inl read) =
    let first = sole_first limits tokens others value read in sole first.0 first.1 first.2 first.3
spoken_kinds limits tokens others value (inr (inl read)) = picked (picks_first limits tokens others value read)
spoken_kinds limits tokens others value (inr (inr read)) =
    let first = verb_first [] limits tokens others value read in wanted first.0 first.1

pub no_remark : (token : Option Token) → Kinds token → kind_at token ≡ 0 → ⊥
unfolding kind_at
no_remark token (sole word command at is) none =
    omega (arith, sym none ∙ ap kind_at at ∙ sole_kind word command is)
no_remark token (picked at) none = omega (arith, sym none ∙ ap kind_at at ∙ neighbor_kind)
no_remark token (wanted verb at) none = omega (arith, sym none ∙ ap kind_at at ∙ verb_kind verb)

-- ---- the choice between kinds

one_kind : (token lead : Option Token) (m n : ℕ) → token ≡ lead → kind_at token ≡ m → kind_at lead ≡ n → m ≡ n
one_kind token lead m n at is also = sym is ∙ ap kind_at at ∙ also

sole_only : (limits : Limits) (tokens others : List Token) (value : Command) (lead : Option Token)
    → front (tokens ++ others) ≡ lead → kind_at lead ≡ 1 → Spoken limits tokens value
    → Then (OneWord IsSole) Ended limits tokens value
unfolding kind_at
sole_only limits tokens others value lead at is (inl read) = read
sole_only limits tokens others value lead at is (inr (inl read)) =
    absurd (omega (
      arith,
      one_kind (front (tokens ++ others)) lead 2 1 at
          (ap kind_at (picks_first limits tokens others value read) ∙ neighbor_kind) is,
    ))
sole_only limits tokens others value lead at is (inr (inr read)) =
    let first = verb_first [] limits tokens others value read in
    absurd (omega (arith, one_kind (front (tokens ++ others)) lead 3 1 at (ap kind_at first.1 ∙ verb_kind first.0) is))

sole_chosen : (lead : Option Token) → kind_at lead ≡ 1
    → IsChosen (Then (OneWord IsSole) Ended) Spoken all_further lead
sole_chosen lead is = record {
  wider = λ limits tokens value read. inl read;
  same = λ limits tokens others value at ends read. sole_only limits tokens others value lead at is read;
}

picked_only : (limits : Limits) (tokens others : List Token) (value : Command) (lead : Option Token)
    → front (tokens ++ others) ≡ lead → kind_at lead ≡ 2 → Spoken limits tokens value
    → Then Picks Targeted limits tokens value
unfolding kind_at
picked_only limits tokens others value lead at is (inl read) =
    let first = sole_first limits tokens others value read in
    absurd (omega (
      arith,
      one_kind (front (tokens ++ others)) lead 1 2 at
          (ap kind_at first.2 ∙ sole_kind first.0 first.1 first.3) is,
    ))
picked_only limits tokens others value lead at is (inr (inl read)) = read
picked_only limits tokens others value lead at is (inr (inr read)) =
    let first = verb_first [] limits tokens others value read in
    absurd (omega (arith, one_kind (front (tokens ++ others)) lead 3 2 at (ap kind_at first.1 ∙ verb_kind first.0) is))

picked_chosen : (lead : Option Token) → kind_at lead ≡ 2
    → IsChosen (Then Picks Targeted) Spoken all_further lead
picked_chosen lead is = record {
  wider = λ limits tokens value read. inr (inl read);
  same = λ limits tokens others value at ends read. picked_only limits tokens others value lead at is read;
}

targeted_only : (limits : Limits) (tokens others : List Token) (value : Command) (lead : Option Token)
    → front (tokens ++ others) ≡ lead
    → ((word : List ℕ) (command : Command) → lead ≡ Some (Word word) → IsSole word command → ⊥)
    → lead ≢ Some (Word (codes "neighbor")) → Spoken limits tokens value → Targeted [] limits tokens value
targeted_only limits tokens others value lead at none never (inl read) =
    let first = sole_first limits tokens others value read in
    absurd (none first.0 first.1 (sym at ∙ first.2) first.3)
targeted_only limits tokens others value lead at none never (inr (inl read)) =
    absurd (never (sym at ∙ picks_first limits tokens others value read))
targeted_only limits tokens others value lead at none never (inr (inr read)) = read

targeted_chosen : (lead : Option Token)
    → ((word : List ℕ) (command : Command) → lead ≡ Some (Word word) → IsSole word command → ⊥)
    → lead ≢ Some (Word (codes "neighbor")) → IsChosen (Targeted []) Spoken all_further lead
targeted_chosen lead none never = record {
  wider = λ limits tokens value read. inr (inr read);
  same = λ limits tokens others value at ends read.
      targeted_only limits tokens others value lead at none never read;
}

pub sole_answers : (word : List ℕ) (command : Command) (tokens mid left : List Placed) (end : Place)
    (answer : Result Command ReadFault) → front_token tokens ≡ Some (Word word) → IsSole word command
    → Reads (OneWord IsSole) nothing_further in_force tokens mid command
    → Answers (Ended command) all_further in_force mid left end answer
    → Answers Spoken all_further in_force tokens left end answer
unfolding kind_at
sole_answers word command tokens mid left end answer at is read given =
    chosen_answers (Then (OneWord IsSole) Ended) Spoken all_further in_force tokens left end (front_token tokens) answer
    (sole_chosen (front_token tokens) (ap kind_at at ∙ sole_kind word command is)) refl
    (then_answers (OneWord IsSole) Ended nothing_further all_further in_force tokens mid left end command answer
    (leads_all all_further Ended) (word_grows IsSole) read given)

pub sole_passed : (word : List ℕ) (command : Command) (left after : List Placed) → after ≡ behind_front left
    → front_token left ≡ Some (Word word) → IsSole word command
    → Reads (OneWord IsSole) nothing_further in_force left after command
sole_passed word command left after is at spelled =
    word_passed IsSole left after word command is at spelled (λ other also. sole_once word command other spelled also)

pub picked_answers : (tokens left : List Placed) (end : Place) (answer : Result Command ReadFault)
    → front_token tokens ≡ Some (Word (codes "neighbor"))
    → Answers (Then Picks Targeted) all_further in_force tokens left end answer
    → Answers Spoken all_further in_force tokens left end answer
unfolding kind_at
picked_answers tokens left end answer at given =
    chosen_answers (Then Picks Targeted) Spoken all_further in_force tokens left end (front_token tokens) answer
    (picked_chosen (front_token tokens) (ap kind_at at ∙ neighbor_kind)) refl given

pub targeted_answers : (pick : List Pick) (tokens left : List Placed) (end : Place)
    (answer : Result Command ReadFault) → pick ≡ []
    → ((word : List ℕ) (command : Command) → front_token tokens ≡ Some (Word word) → IsSole word command → ⊥)
    → front_token tokens ≢ Some (Word (codes "neighbor"))
    → Answers (Targeted pick) all_further in_force tokens left end answer
    → Answers Spoken all_further in_force tokens left end answer
targeted_answers pick tokens left end answer is none never given =
    let goal : List Pick → Type 0 = λ some. Answers (Targeted some) all_further in_force tokens left end answer in
    chosen_answers (Targeted []) Spoken all_further in_force tokens left end (front_token tokens) answer
    (targeted_chosen (front_token tokens) none never) refl (subst goal is given)

-- ---- remarks

pub remark_front : (tokens : List Token) → is_remark (front tokens) ≡ true
    → (bytes : List ℕ) × (others : List Token) × (tokens ≡ Word (35 ∷ bytes) ∷ others)
remark_front [] is = absurd (false≢true is)
remark_front (Word [] ∷ others) is = absurd (false≢true is)
remark_front (Word (first ∷ bytes) ∷ others) is =
    (bytes, others, ap (λ (b : ℕ). Word (b ∷ bytes) ∷ others) (eqb-true first 35 is))
remark_front (_ ∷ others) is = absurd (false≢true is)

pub remark_kind : (tokens : List Token) → is_remark (front tokens) ≡ true → kind_at (front tokens) ≡ 0
unfolding kind_at kind_of
remark_kind tokens is = let remark = remark_front tokens is in ap (λ (all : List Token). kind_at (front all)) remark.2
